-- ASCII, as a test of each byte and as a fact of each place.
use Rattle.std.proofs.Common.{◌≡◌, ℕ, true, List, [], ◌∷◌, Option, None, Some}
use Rattle.std.specs.Str.{IsAscii}
use Rattle.std.proofs.lemmas.Bool.{ltb-true, lt-ltb}
use Rattle.std.proofs.lemmas.Str.Ascii.{IsAscii-from_all, All-from_ascii}
use Rattle.std.proofs.lemmas.List.Sums.{AllPass-from_list_all, list_all-from_AllPass}
use Rattle.artery_header.specs.Envelope.{IsAsciiName, HasTexts, is_text}
use Rattle.artery_codec.specs.Meaning.{Meaning, HasAsciiNames}
use Rattle.artery_codec.specs.Writing.{Indices, indexed, written_name, written}

pub is_ascii : (bytes : List ℕ) → is_text bytes ≡ true → IsAscii bytes
is_ascii bytes h = IsAscii-from_all bytes (λ k d l. ltb-true _ _ (AllPass-from_list_all _ bytes h k d l))

pub ascii_tests : (bytes : List ℕ) → IsAscii bytes → is_text bytes ≡ true
ascii_tests bytes a = list_all-from_AllPass _ bytes (λ k d l. lt-ltb _ _ (All-from_ascii bytes a k d l))

indexed_ascii : (name : List ℕ) (index : Option ℕ) → IsAscii name → IsAsciiName (indexed name index)
indexed_ascii name None a = ascii_tests name a
indexed_ascii name (Some i) a = tt

-- a name that is ASCII is written so
pub name_ascii : (table : Indices) (name : List ℕ) → IsAscii name → IsAsciiName (written_name table name)
name_ascii table [] a = ascii_tests [] a
name_ascii table (byte ∷ bytes) a = indexed_ascii (byte ∷ bytes) (table.index_of (byte ∷ bytes)) a

pub written_ascii : (refs manifests : Indices) (m : Meaning) → HasAsciiNames m → HasTexts (written refs manifests m)
written_ascii refs manifests m a = record {
  sender = name_ascii refs m.sender a.sender;
  recipient = name_ascii refs m.recipient a.recipient;
  manifest = name_ascii manifests m.manifest a.manifest;
}
