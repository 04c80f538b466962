use Rattle.artery_script.proofs.LineLaws.{event_of_is, event_of_back}
use Rattle.artery_script.proofs.laws.events_are_spelled.Goals as goal

pub returns-clause-told : goal.returns-clause-told
returns-clause-told c = event_of_back (record {
  numbers_read = c.spellings_are_read.ensures.numbers;
  int32s_read = c.spellings_are_read.ensures.int32s;
  hex_read = c.spellings_are_read.ensures.hexadecimal;
  words_read = c.spellings_are_read.ensures.words;
  addresses_read = c.spellings_are_read.ensures.addresses;
  numbers_spelled = c.readings_are_spelled.ensures.numbers;
  int32s_spelled = c.readings_are_spelled.ensures.int32s;
  hex_spelled = c.readings_are_spelled.ensures.hexadecimal;
  words_spelled = c.readings_are_spelled.ensures.words;
  addresses_spelled = c.readings_are_spelled.ensures.addresses;
  number_tokens = c.spellings_are_tokens.ensures.numbers;
  int32_tokens = c.spellings_are_tokens.ensures.int32s;
  hex_tokens = c.spellings_are_tokens.ensures.hexadecimal;
  word_tokens = c.spellings_are_tokens.ensures.words;
  address_tokens = c.spellings_are_tokens.ensures.addresses;
})

pub returns-clause-read : goal.returns-clause-read
returns-clause-read c = event_of_is (record {
  numbers_read = c.spellings_are_read.ensures.numbers;
  int32s_read = c.spellings_are_read.ensures.int32s;
  hex_read = c.spellings_are_read.ensures.hexadecimal;
  words_read = c.spellings_are_read.ensures.words;
  addresses_read = c.spellings_are_read.ensures.addresses;
  numbers_spelled = c.readings_are_spelled.ensures.numbers;
  int32s_spelled = c.readings_are_spelled.ensures.int32s;
  hex_spelled = c.readings_are_spelled.ensures.hexadecimal;
  words_spelled = c.readings_are_spelled.ensures.words;
  addresses_spelled = c.readings_are_spelled.ensures.addresses;
  number_tokens = c.spellings_are_tokens.ensures.numbers;
  int32_tokens = c.spellings_are_tokens.ensures.int32s;
  hex_tokens = c.spellings_are_tokens.ensures.hexadecimal;
  word_tokens = c.spellings_are_tokens.ensures.words;
  address_tokens = c.spellings_are_tokens.ensures.addresses;
})
