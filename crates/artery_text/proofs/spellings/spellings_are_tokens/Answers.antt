use Rattle.artery_text.proofs.Tokens.{decimal_token, signed_token, hex_token, word_token, address_token, unique_token}
use Rattle.artery_text.proofs.spellings.spellings_are_tokens.Goals as goal

pub returns-clause-numbers : goal.returns-clause-numbers
returns-clause-numbers c = decimal_token

pub returns-clause-int32s : goal.returns-clause-int32s
returns-clause-int32s c = signed_token

pub returns-clause-hexadecimal : goal.returns-clause-hexadecimal
returns-clause-hexadecimal c = hex_token

pub returns-clause-words : goal.returns-clause-words
returns-clause-words c = word_token

pub returns-clause-addresses : goal.returns-clause-addresses
returns-clause-addresses c = address_token

pub returns-clause-uniques : goal.returns-clause-uniques
returns-clause-uniques c = unique_token
