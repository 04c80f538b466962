use Rattle.artery_text.proofs.Decimals.{number_of-decimal, int32_of-signed}
use Rattle.artery_text.proofs.HexPairs.{hex_of-hex_text}
use Rattle.artery_text.proofs.WordPieces.{word_of-word_text}
use Rattle.artery_text.proofs.AddressLaws.{address_of-address_text, unique_of-unique_text}
use Rattle.artery_text.proofs.spellings.spellings_are_read.Goals as goal

pub returns-clause-numbers : goal.returns-clause-numbers
returns-clause-numbers c = number_of-decimal

pub returns-clause-int32s : goal.returns-clause-int32s
returns-clause-int32s c = int32_of-signed

pub returns-clause-hexadecimal : goal.returns-clause-hexadecimal
returns-clause-hexadecimal c = hex_of-hex_text

pub returns-clause-words : goal.returns-clause-words
returns-clause-words c = word_of-word_text

pub returns-clause-addresses : goal.returns-clause-addresses
returns-clause-addresses c = address_of-address_text

pub returns-clause-uniques : goal.returns-clause-uniques
returns-clause-uniques c = unique_of-unique_text
