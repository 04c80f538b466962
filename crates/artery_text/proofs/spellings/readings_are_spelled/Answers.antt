use Rattle.artery_text.proofs.Decimals.{number_of-Some, int32_of-Some}
use Rattle.artery_text.proofs.HexPairs.{hex_of-Ok}
use Rattle.artery_text.proofs.WordPieces.{word_of-Ok}
use Rattle.artery_text.proofs.AddressLaws.{address_of-Ok, unique_of-Ok}
use Rattle.artery_text.proofs.spellings.readings_are_spelled.Goals as goal

pub returns-clause-numbers : goal.returns-clause-numbers
returns-clause-numbers c = number_of-Some

pub returns-clause-int32s : goal.returns-clause-int32s
returns-clause-int32s c = int32_of-Some

pub returns-clause-hexadecimal : goal.returns-clause-hexadecimal
returns-clause-hexadecimal c = hex_of-Ok

pub returns-clause-words : goal.returns-clause-words
returns-clause-words c = word_of-Ok

pub returns-clause-addresses : goal.returns-clause-addresses
returns-clause-addresses c = address_of-Ok

pub returns-clause-uniques : goal.returns-clause-uniques
returns-clause-uniques c = unique_of-Ok
