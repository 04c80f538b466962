-- What is kept of parts under way, with a part or a line more.
use Rattle.std.proofs.Common.{◌≡◌, ℕ, zero, suc, ◌-◌, Bool, true, false, ◌||◌, List, [], ◌∷◌, ◌++◌, length, refl, ap, sym, subst, ◌∙◌}
use Rattle.std.proofs.lemmas.List.{map-append}
use Rattle.std.specs.Prelude.{Option, Some, None, Ok, Err, map, slice_get, slice_set, if◌then◌else◌}
use Rattle.std.specs.List.{list_any}
use Rattle.indexmap.specs.IndexSet.{insert_key}
use Rattle.artery_base.specs.declared.address.UniqueAddress.{UniqueAddress}
use Rattle.artery_base.specs.contracts.address.UniqueAddressEq.TheImpl.Laws.{laws-law}
use Rattle.artery_journal.specs.declared.line.Line.{Line}
use Rattle.artery_judge.specs.Lines.{same}
use Rattle.artery_audit.specs.declared.part.Part.{Part}
use Rattle.artery_audit.specs.Parts.{AreParts, last_part, takes, has_part, begun, lined, lined_at, with_line}
use Rattle.artery_parts_reading.specs.declared.fault.PartsFault.TheVariants as parts_faults
use Rattle.artery_parts_reading.specs.Parts.{at_line}
use Rattle.artery_parts_reading.specs.declared.told.Told.TheVariants as says
use Rattle.artery_parts_reading.specs.Gathering.{Gathering, IsGathering, with_told}

-- the name of a part
abbrev pub name : Part → UniqueAddress
name p = p.of

-- a name is there exactly where a part has it
named : (u : UniqueAddress) (parts : List Part) → list_any (same u) (map name parts) ≡ has_part u parts
named u [] = refl
named u (p ∷ ps) = λ i. laws-law.symm u p.of i || named u ps i

pub has_name : (u : UniqueAddress) (g : Gathering) → IsGathering g → list_any (same u) g.names ≡ has_part u g.parts
has_name u g ok = ap (list_any (same u)) ok.names ∙ named u g.parts

-- a part more is a name more
names_more : (names : List UniqueAddress) (parts : List Part) (u : UniqueAddress) → names ≡ map name parts → list_any (same u) names ≡ false → insert_key same names u ≡ map name (parts ++ begun u ∷ [])
names_more names parts u is new =
    ap (λ (b : Bool). if b then names else names ++ u ∷ []) new ∙ ap (λ (ns : List UniqueAddress). ns ++ u ∷ []) is ∙ sym (map-append name parts (begun u ∷ []))

-- a line more changes no name
set_same : (parts : List Part) (k : ℕ) (p q : Part) → slice_get parts k ≡ Some p → q.of ≡ p.of → map name (slice_set parts k q) ≡ map name parts
set_same [] k p q at is = refl
set_same (r ∷ rs) zero p q at is = ap (λ u. u ∷ map name rs) (is ∙ here at)
  where
    here : Some r ≡ Some p → p.of ≡ r.of
    here e = let same_part : r ≡ p = cc in sym (ap name same_part)
set_same (r ∷ rs) (suc k) p q at is = ap (λ (us : List UniqueAddress). r.of ∷ us) (set_same rs k p q at is)

names_same : (parts : List Part) (line : Line) → map name (with_line line parts) ≡ map name parts
names_same parts line = by (last_part parts) refl
  where
    by : (o : Option Part) → last_part parts ≡ o → map name (lined_at (length parts - 1) line parts o) ≡ map name parts
    by None at = refl
    by (Some p) at = set_same parts (length parts - 1) p (lined line p) at refl

abbrev pub PartLaw : Type 0
PartLaw = (parts : List Part) (u : UniqueAddress) → AreParts parts → has_part u parts ≡ false → AreParts (parts ++ begun u ∷ [])

abbrev pub LineLaw : Type 0
LineLaw = (parts : List Part) (line : Line) → AreParts parts → takes line parts ≡ true → AreParts (with_line line parts)

-- a part was begun
pub begins : PartLaw → (n : ℕ) (old new : Gathering) (u : UniqueAddress) → IsGathering old → list_any (same u) old.names ≡ false → new.parts ≡ old.parts ++ begun u ∷ [] → new.names ≡ insert_key same old.names u
    → (at_line n (with_told old.parts (says.Of u)) ≡ Ok new.parts) × IsGathering new
begins law n old new u ok none parts names =
    let new_part : has_part u old.parts ≡ false = sym (has_name u old ok) ∙ none in (
      ap (λ (b : Bool). at_line n (if b then None else Some (old.parts ++ begun u ∷ []))) new_part ∙ ap Ok (sym parts),
      record {
        names = names ∙ names_more old.names old.parts u ok.names none ∙ ap (map name) (sym parts);
        apart = subst AreParts (sym parts) (law old.parts u ok.apart new_part);
      },
    )

-- there is a part of this incarnation
pub has_begun : (n : ℕ) (old : Gathering) (u : UniqueAddress) → IsGathering old → list_any (same u) old.names ≡ true → at_line n (with_told old.parts (says.Of u)) ≡ Err (parts_faults.BadLine n)
has_begun n old u ok there = ap (λ (b : Bool). at_line n (if b then None else Some (old.parts ++ begun u ∷ []))) (sym (has_name u old ok) ∙ there)

-- a line was added
pub goes_on : LineLaw → (n : ℕ) (old new : Gathering) (line : Line) → IsGathering old → takes line old.parts ≡ true → new.parts ≡ with_line line old.parts → new.names ≡ old.names
    → (at_line n (with_told old.parts (says.Line line)) ≡ Ok new.parts) × IsGathering new
goes_on law n old new line ok mine parts names = (
  ap (λ (b : Bool). at_line n (if b then Some (with_line line old.parts) else None)) mine ∙ ap Ok (sym parts),
  record {
    names = names ∙ ok.names ∙ sym (names_same old.parts line) ∙ ap (map name) (sym parts);
    apart = subst AreParts (sym parts) (law old.parts line ok.apart mine);
  },
)

-- the line is of another incarnation
pub is_other : (n : ℕ) (old : Gathering) (line : Line) → takes line old.parts ≡ false → at_line n (with_told old.parts (says.Line line)) ≡ Err (parts_faults.BadLine n)
is_other n old line other = ap (λ (b : Bool). at_line n (if b then Some (with_line line old.parts) else None)) other
