-- The ordinary law of a journal.
use Rattle.artery_judge.specs.Lines.{says_got}
use Rattle.artery_judge.specs.Laws.{breaks_ordinary}
use Rattle.artery_alone.specs.Alone.{Law}

-- What one got from another with a nonce, up to a line that it got something, is a subsequence of what that other told it before on its connection with that dial number.
abbrev pub ordinary_law : Law
ordinary_law before e = breaks_ordinary before (says_got e.1)
