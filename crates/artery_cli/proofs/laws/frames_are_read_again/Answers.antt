use Rattle.artery_cli.proofs.FrameLines.{frame_back}
use Rattle.artery_cli.proofs.laws.frames_are_read_again.Goals as goal

pub returns-clause-told : goal.returns-clause-told
returns-clause-told c = frame_back (record {
  numbers_read = c.spellings_are_read.ensures.numbers;
  int32s_read = c.spellings_are_read.ensures.int32s;
  hex_read = c.spellings_are_read.ensures.hexadecimal;
  words_read = c.spellings_are_read.ensures.words;
  number_tokens = c.spellings_are_tokens.ensures.numbers;
  int32_tokens = c.spellings_are_tokens.ensures.int32s;
  hex_tokens = c.spellings_are_tokens.ensures.hexadecimal;
  word_tokens = c.spellings_are_tokens.ensures.words;
})
