-- Faults and rules are read exactly on their fields.
use Rattle.std.proofs.Common.{◌≡◌, ℕ, Bool, true, false, cond, List, [], ◌∷◌, ◌++◌, Option, Some, None, refl, sym, ap, ◌∙◌, subst}
use Rattle.std.specs.Prelude.{codes, decimal, bytes_eq}
use Rattle.artery_text.specs.Reading.{number_of}
use Rattle.artery_script.specs.Reading.{with_rest, field, both, made, by_word}
use Rattle.artery_script.proofs.Formats.{NoSpace, NoSpaces, IsFormat, Always, field_format, both_format, made_reads, verb_row, word_row, rest_is}
use Rattle.artery_script.proofs.FieldLaws.{TextLaws, number_field}
use Rattle.artery_script.proofs.LineLaws.{by_word_is}
use Rattle.artery_journal.specs.declared.words.Which.{Which}
use Rattle.artery_journal.specs.declared.fault.Fault.{Fault}
use Rattle.artery_journal.specs.declared.fault.Fault.TheVariants as faults
use Rattle.artery_journal.specs.declared.rule.Rule.{Rule}
use Rattle.artery_journal.specs.declared.rule.Rule.TheVariants as rules
use Rattle.artery_journal.specs.Texts.{which_text, path_text, fault_fields, rule_fields}
use Rattle.artery_journal.specs.Valid.{IsNumber, IsPath, IsFault, IsRule}
use Rattle.artery_journal_reading.specs.Reading.{which_told, path_told, place_path, two_numbers, field_fault_named, fault_named, fault_in, peer_rule_told, plain_rule_told, which_version, table_rule_named, rule_named, rule_in}
use Rattle.artery_journal_reading.proofs.WordLaws.{which_field}
use Rattle.artery_journal_reading.proofs.PathLaws.{path_field}

-- fields begin with this word, which tells a value alone, or they tell what others do
pub alone_row : {X : Type 0} (t w : List ℕ) (y : X) (Good : X → Type 0) (all : X → List (List ℕ)) (ts : List (List ℕ)) (x : X) (left : List (List ℕ)) (other : Option (X × List (List ℕ)))
    → cond (bytes_eq t w) (Some (y, ts)) other ≡ Some (x, left) → Good y → w ∷ [] ≡ all y
    → (other ≡ Some (x, left) → Good x × (t ∷ ts ≡ all x ++ left)) → Good x × (t ∷ ts ≡ all x ++ left)
alone_row {X} t w y Good all ts x left other h good same more =
    word_row t w (y, ts) (x, left) other (λ r. Good r.0 × (t ∷ ts ≡ all r.0 ++ r.1)) h (λ e. (good, ap (λ u. u ∷ ts) e ∙ ap (λ us. us ++ ts) same)) more

pub number_format : TextLaws → IsFormat (field number_of) (λ n. decimal n ∷ []) IsNumber Always
number_format l = field_format number_of decimal IsNumber Always (number_field l)

path_format : TextLaws → IsFormat (field path_told) (λ p. path_text p ∷ []) IsPath Always
path_format l = field_format path_told path_text IsPath Always (path_field l)

which_format : IsFormat (field which_told) (λ w. which_text w ∷ []) Always Always
which_format = field_format which_told which_text Always Always which_field

pub two_format : TextLaws → IsFormat two_numbers (λ p. decimal p.0 ∷ decimal p.1 ∷ []) (λ p. IsNumber p.0 × IsNumber p.1) (λ p. Always p.0 × Always p.1)
two_format l = both_format _ _ _ _ _ _ _ _ (number_format l) (number_format l)

-- ---- faults

place_format : TextLaws → IsFormat place_path (λ p. decimal p.0 ∷ path_text p.1 ∷ []) (λ p. IsNumber p.0 × IsPath p.1) (λ p. Always p.0 × Always p.1)
place_format l = both_format _ _ _ _ _ _ _ _ (number_format l) (path_format l)

field_fault_is : TextLaws → (t : List ℕ) (ts : List (List ℕ)) (x : Fault) (left : List (List ℕ)) → field_fault_named t ts ≡ Some (x, left) → IsFault x × (t ∷ ts ≡ fault_fields x ++ left)
unfolding field_fault_named
field_fault_is l t ts x left h =
    verb_row t (codes "missing") (λ p. faults.Missing p) _ _ _ _ IsFault fault_fields ts x left _ (path_format l) h (λ a v. v) (λ a. refl)
    (λ h. verb_row t (codes "bad-text") (λ p. faults.BadText p) _ _ _ _ IsFault fault_fields ts x left _ (path_format l) h (λ a v. v) (λ a. refl)
    (λ h. verb_row t (codes "range") (λ p. faults.Range p) _ _ _ _ IsFault fault_fields ts x left _ (path_format l) h (λ a v. v) (λ a. refl)
    (λ h. verb_row t (codes "unequal") (λ p. faults.Unequal p.0 p.1) _ _ _ _ IsFault fault_fields ts x left _ (two_format l) h (λ a v. v) (λ a. refl)
    (λ h. alone_row t (codes "unknown-manifest") (faults.UnknownManifest) IsFault fault_fields ts x left _ h tt refl
    (λ h. absurd cc)))))

fault_is : TextLaws → (t : List ℕ) (ts : List (List ℕ)) (x : Fault) (left : List (List ℕ)) → fault_named t ts ≡ Some (x, left) → IsFault x × (t ∷ ts ≡ fault_fields x ++ left)
unfolding fault_named
fault_is l t ts x left h =
    verb_row t (codes "varint") (λ p. faults.Varint p.0 p.1) _ _ _ _ IsFault fault_fields ts x left _ (place_format l) h (λ a v. v) (λ a. refl)
    (λ h. verb_row t (codes "wire-type") (λ p. faults.WireType p.0 p.1) _ _ _ _ IsFault fault_fields ts x left _ (place_format l) h (λ a v. v) (λ a. refl)
    (λ h. verb_row t (codes "truncated") (λ p. faults.Truncated p.0 p.1) _ _ _ _ IsFault fault_fields ts x left _ (place_format l) h (λ a v. v) (λ a. refl)
    (λ h. verb_row t (codes "field-number") (λ p. faults.FieldNumber p.0 p.1) _ _ _ _ IsFault fault_fields ts x left _ (place_format l) h (λ a v. v) (λ a. refl)
    (field_fault_is l t ts x left))))

fault_back : TextLaws → (x : Fault) (left : List (List ℕ)) → IsFault x → fault_in (fault_fields x ++ left) ≡ Some (x, left)
unfolding fault_named field_fault_named
fault_back l faults.UnknownManifest left v = refl
fault_back l (faults.Varint at path) left v = made_reads (λ p. faults.Varint p.0 p.1) _ _ _ _ (place_format l) (at, path) left v (tt, tt)
fault_back l (faults.WireType at path) left v = made_reads (λ p. faults.WireType p.0 p.1) _ _ _ _ (place_format l) (at, path) left v (tt, tt)
fault_back l (faults.Truncated at path) left v = made_reads (λ p. faults.Truncated p.0 p.1) _ _ _ _ (place_format l) (at, path) left v (tt, tt)
fault_back l (faults.FieldNumber at path) left v = made_reads (λ p. faults.FieldNumber p.0 p.1) _ _ _ _ (place_format l) (at, path) left v (tt, tt)
fault_back l (faults.Missing path) left v = made_reads (λ p. faults.Missing p) _ _ _ _ (path_format l) path left v tt
fault_back l (faults.BadText path) left v = made_reads (λ p. faults.BadText p) _ _ _ _ (path_format l) path left v tt
fault_back l (faults.Range path) left v = made_reads (λ p. faults.Range p) _ _ _ _ (path_format l) path left v tt
fault_back l (faults.Unequal keys values) left v = made_reads (λ p. faults.Unequal p.0 p.1) _ _ _ _ (two_format l) (keys, values) left v (tt, tt)

fault_tokens : TextLaws → (x : Fault) → IsFault x → NoSpaces (fault_fields x)
fault_tokens l faults.UnknownManifest v = (refl, tt)
fault_tokens l (faults.Varint at path) v = (refl, (place_format l).tokens (at, path) v (tt, tt))
fault_tokens l (faults.WireType at path) v = (refl, (place_format l).tokens (at, path) v (tt, tt))
fault_tokens l (faults.Truncated at path) v = (refl, (place_format l).tokens (at, path) v (tt, tt))
fault_tokens l (faults.FieldNumber at path) v = (refl, (place_format l).tokens (at, path) v (tt, tt))
fault_tokens l (faults.Missing path) v = (refl, (path_format l).tokens path v tt)
fault_tokens l (faults.BadText path) v = (refl, (path_format l).tokens path v tt)
fault_tokens l (faults.Range path) v = (refl, (path_format l).tokens path v tt)
fault_tokens l (faults.Unequal keys values) v = (refl, (two_format l).tokens (keys, values) v (tt, tt))

fault_format : TextLaws → IsFormat fault_in fault_fields IsFault Always
fault_format l = record { spelled = by_word_is fault_named fault_fields IsFault (fault_is l); reads = λ x left v b. fault_back l x left v; tokens = λ x v b. fault_tokens l x v }

-- ---- rules

abbrev IsAlone : List ℕ → Rule → Type 0
IsAlone t x = IsRule x × (t ∷ [] ≡ rule_fields x)

peer_rule_is : (t : List ℕ) (x : Rule) → peer_rule_told t ≡ Some x → IsAlone t x
unfolding peer_rule_told
peer_rule_is t x h =
    word_row t (codes "not-me") rules.NotMe x _ (IsAlone t) h (λ e. (tt, ap (λ u. u ∷ []) e))
    (λ h. word_row t (codes "from") rules.From x _ (IsAlone t) h (λ e. (tt, ap (λ u. u ∷ []) e))
    (λ h. word_row t (codes "self") rules.Itself x _ (IsAlone t) h (λ e. (tt, ap (λ u. u ∷ []) e))
    (λ h. word_row t (codes "origin") rules.Origin x _ (IsAlone t) h (λ e. (tt, ap (λ u. u ∷ []) e))
    (λ h. word_row t (codes "peers") rules.Peers x _ (IsAlone t) h (λ e. (tt, ap (λ u. u ∷ []) e))
    (λ h. word_row t (codes "origins") rules.Origins x _ (IsAlone t) h (λ e. (tt, ap (λ u. u ∷ []) e))
    (λ h. word_row t (codes "closed") rules.Closed x _ (IsAlone t) h (λ e. (tt, ap (λ u. u ∷ []) e))
    (λ h. word_row t (codes "not-current") rules.NotCurrent x _ (IsAlone t) h (λ e. (tt, ap (λ u. u ∷ []) e))
    (λ h. absurd cc))))))))

plain_rule_is : (t : List ℕ) (x : Rule) → plain_rule_told t ≡ Some x → IsAlone t x
unfolding plain_rule_told
plain_rule_is t x h =
    word_row t (codes "metadata") rules.Metadata x _ (IsAlone t) h (λ e. (tt, ap (λ u. u ∷ []) e))
    (λ h. word_row t (codes "bad-magic") rules.BadMagic x _ (IsAlone t) h (λ e. (tt, ap (λ u. u ∷ []) e))
    (λ h. word_row t (codes "bad-stream") rules.BadStream x _ (IsAlone t) h (λ e. (tt, ap (λ u. u ∷ []) e))
    (λ h. word_row t (codes "too-long") rules.TooLong x _ (IsAlone t) h (λ e. (tt, ap (λ u. u ∷ []) e))
    (λ h. word_row t (codes "uid") rules.Uid x _ (IsAlone t) h (λ e. (tt, ap (λ u. u ∷ []) e))
    (λ h. word_row t (codes "stream") rules.Stream x _ (IsAlone t) h (λ e. (tt, ap (λ u. u ∷ []) e))
    (λ h. word_row t (codes "no-handshake") rules.NoHandshake x _ (IsAlone t) h (λ e. (tt, ap (λ u. u ∷ []) e))
    (λ h. word_row t (codes "old-table") rules.OldTable x _ (IsAlone t) h (λ e. (tt, ap (λ u. u ∷ []) e))
    (λ h. word_row t (codes "ack-range") rules.AckRange x _ (IsAlone t) h (λ e. (tt, ap (λ u. u ∷ []) e))
    (λ h. word_row t (codes "unused") rules.Unused x _ (IsAlone t) h (λ e. (tt, ap (λ u. u ∷ []) e))
    (peer_rule_is t x))))))))))

alone_is : (t : List ℕ) (ts : List (List ℕ)) (x : Rule) (left : List (List ℕ)) → with_rest ts (plain_rule_told t) ≡ Some (x, left) → IsRule x × (t ∷ ts ≡ rule_fields x ++ left)
alone_is t ts x left h =
    let r = rest_is ts left (plain_rule_told t) x h in
    let p = plain_rule_is t x r.0 in
    (p.0, ap (λ us. t ∷ us) r.1 ∙ ap (λ us. us ++ left) p.1)

version_format : TextLaws → IsFormat which_version (λ p. which_text p.0 ∷ decimal p.1 ∷ []) (λ p. Always p.0 × IsNumber p.1) (λ p. Always p.0 × Always p.1)
version_format l = both_format _ _ _ _ _ _ _ _ which_format (number_format l)

index_format : TextLaws → IsFormat (both which_version (field number_of)) (λ p. which_text p.0.0 ∷ decimal p.0.1 ∷ decimal p.1 ∷ []) (λ p. (Always p.0.0 × IsNumber p.0.1) × IsNumber p.1) (λ p. (Always p.0.0 × Always p.0.1) × Always p.1)
index_format l = both_format _ _ _ _ _ _ _ _ (version_format l) (number_format l)

table_rule_is : TextLaws → (t : List ℕ) (ts : List (List ℕ)) (x : Rule) (left : List (List ℕ)) → table_rule_named t ts ≡ Some (x, left) → IsRule x × (t ∷ ts ≡ rule_fields x ++ left)
unfolding table_rule_named
table_rule_is l t ts x left h =
    verb_row t (codes "unknown-version") (λ p. rules.UnknownVersion p.0 p.1) _ _ _ _ IsRule rule_fields ts x left _ (version_format l) h (λ a v. v.1) (λ a. refl)
    (λ h. verb_row t (codes "unknown-index") (λ p. rules.UnknownIndex p.0.0 p.0.1 p.1) _ _ _ _ IsRule rule_fields ts x left _ (index_format l) h (λ a v. (v.0.1, v.1)) (λ a. refl)
    (λ h. verb_row t (codes "control") (λ f. rules.Control f) _ _ _ _ IsRule rule_fields ts x left _ (fault_format l) h (λ a v. v) (λ a. refl)
    (alone_is t ts x left)))

rule_is : TextLaws → (t : List ℕ) (ts : List (List ℕ)) (x : Rule) (left : List (List ℕ)) → rule_named t ts ≡ Some (x, left) → IsRule x × (t ∷ ts ≡ rule_fields x ++ left)
unfolding rule_named
rule_is l t ts x left h =
    verb_row t (codes "short") (λ n. rules.Short n) _ _ _ _ IsRule rule_fields ts x left _ (number_format l) h (λ a v. v) (λ a. refl)
    (λ h. verb_row t (codes "version") (λ n. rules.Version n) _ _ _ _ IsRule rule_fields ts x left _ (number_format l) h (λ a v. v) (λ a. refl)
    (λ h. verb_row t (codes "literal-past") (λ w. rules.LiteralPast w) _ _ _ _ IsRule rule_fields ts x left _ (which_format) h (λ a v. v) (λ a. refl)
    (λ h. verb_row t (codes "not-ascii") (λ w. rules.NotAscii w) _ _ _ _ IsRule rule_fields ts x left _ (which_format) h (λ a v. v) (λ a. refl)
    (table_rule_is l t ts x left))))

rule_back : TextLaws → (x : Rule) (left : List (List ℕ)) → IsRule x → rule_in (rule_fields x ++ left) ≡ Some (x, left)
unfolding rule_named table_rule_named plain_rule_told peer_rule_told
rule_back l (rules.Short n) left v = made_reads (λ n. rules.Short n) _ _ _ _ (number_format l) n left v tt
rule_back l (rules.Version n) left v = made_reads (λ n. rules.Version n) _ _ _ _ (number_format l) n left v tt
rule_back l (rules.LiteralPast w) left v = made_reads (λ w. rules.LiteralPast w) _ _ _ _ which_format w left tt tt
rule_back l (rules.NotAscii w) left v = made_reads (λ w. rules.NotAscii w) _ _ _ _ which_format w left tt tt
rule_back l (rules.UnknownVersion w n) left v = made_reads (λ p. rules.UnknownVersion p.0 p.1) _ _ _ _ (version_format l) (w, n) left (tt, v) (tt, tt)
rule_back l (rules.UnknownIndex w n i) left v = made_reads (λ p. rules.UnknownIndex p.0.0 p.0.1 p.1) _ _ _ _ (index_format l) ((w, n), i) left ((tt, v.0), v.1) ((tt, tt), tt)
rule_back l (rules.Control f) left v = made_reads (λ f. rules.Control f) _ _ _ _ (fault_format l) f left v tt
rule_back l rules.Metadata left v = refl
rule_back l rules.BadMagic left v = refl
rule_back l rules.BadStream left v = refl
rule_back l rules.TooLong left v = refl
rule_back l rules.Uid left v = refl
rule_back l rules.Stream left v = refl
rule_back l rules.NoHandshake left v = refl
rule_back l rules.OldTable left v = refl
rule_back l rules.AckRange left v = refl
rule_back l rules.Unused left v = refl
rule_back l rules.NotMe left v = refl
rule_back l rules.From left v = refl
rule_back l rules.Itself left v = refl
rule_back l rules.Origin left v = refl
rule_back l rules.Peers left v = refl
rule_back l rules.Origins left v = refl
rule_back l rules.Closed left v = refl
rule_back l rules.NotCurrent left v = refl

rule_tokens : TextLaws → (x : Rule) → IsRule x → NoSpaces (rule_fields x)
rule_tokens l (rules.Short n) v = (refl, (number_format l).tokens n v tt)
rule_tokens l (rules.Version n) v = (refl, (number_format l).tokens n v tt)
rule_tokens l (rules.LiteralPast w) v = (refl, which_format.tokens w tt tt)
rule_tokens l (rules.NotAscii w) v = (refl, which_format.tokens w tt tt)
rule_tokens l (rules.UnknownVersion w n) v = (refl, (version_format l).tokens (w, n) (tt, v) (tt, tt))
rule_tokens l (rules.UnknownIndex w n i) v = (refl, (index_format l).tokens ((w, n), i) ((tt, v.0), v.1) ((tt, tt), tt))
rule_tokens l (rules.Control f) v = (refl, (fault_format l).tokens f v tt)
rule_tokens l rules.Metadata v = (refl, tt)
rule_tokens l rules.BadMagic v = (refl, tt)
rule_tokens l rules.BadStream v = (refl, tt)
rule_tokens l rules.TooLong v = (refl, tt)
rule_tokens l rules.Uid v = (refl, tt)
rule_tokens l rules.Stream v = (refl, tt)
rule_tokens l rules.NoHandshake v = (refl, tt)
rule_tokens l rules.OldTable v = (refl, tt)
rule_tokens l rules.AckRange v = (refl, tt)
rule_tokens l rules.Unused v = (refl, tt)
rule_tokens l rules.NotMe v = (refl, tt)
rule_tokens l rules.From v = (refl, tt)
rule_tokens l rules.Itself v = (refl, tt)
rule_tokens l rules.Origin v = (refl, tt)
rule_tokens l rules.Peers v = (refl, tt)
rule_tokens l rules.Origins v = (refl, tt)
rule_tokens l rules.Closed v = (refl, tt)
rule_tokens l rules.NotCurrent v = (refl, tt)

pub rule_format : TextLaws → IsFormat rule_in rule_fields IsRule Always
rule_format l = record { spelled = by_word_is rule_named rule_fields IsRule (rule_is l); reads = λ x left v b. rule_back l x left v; tokens = λ x v b. rule_tokens l x v }
