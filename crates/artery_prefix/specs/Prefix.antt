-- The prefix law of a journal.
use Rattle.artery_judge.specs.Lines.{says_took}
use Rattle.artery_judge.specs.Laws.{breaks_prefix}
use Rattle.artery_alone.specs.Alone.{Law}

-- What one took from another up to a line that it took something is a prefix of what that other sent to it before.
abbrev pub prefix_law : Law
prefix_law before e = breaks_prefix before (says_took e.1)
