-- What is read in the lines of a journal, the newest first: the numbers adopted, what was told and got on a connection, and who bears a UID.
use Rattle.std.proofs.Common.{◌≡◌, ℕ, cond, List, [], ◌∷◌, ◌++◌, map, refl, ◌∙◌, ap}
use Rattle.std.specs.Prelude.{Option, None, Some, ◌==◌}
use Rattle.artery_base.specs.declared.address.UniqueAddress.{UniqueAddress}
use Rattle.artery_base.specs.declared.message.Tell.{Tell}
use Rattle.artery_journal.specs.declared.line.Line.{Line}
use Rattle.artery_journal.specs.declared.line.Line.TheVariants as lines
use Rattle.artery_journal.specs.declared.words.Kind.{Kind}
use Rattle.artery_judge.specs.Lines.{Way, is_way, says_told, says_got}
use Rattle.artery_judge.specs.Laws.{is_dial, is_nonce}
use Rattle.artery_machine.specs.declared.world.Outcome.{Outcome}
use Rattle.artery_machine.specs.declared.world.Outcome.TheVariants as outcomes
use Rattle.artery_machine.specs.Node.{OfKinds, of_each, change_kind}

-- ---- a line

-- Of a line `a adopted b KIND NUMBER`: a and b, the kind and the number.
abbrev pub says_adopted : Line → Option ((Way × Kind) × ℕ)
says_adopted (lines.Adopted a b kind number) = Some (((a, b), kind), number)
says_adopted line = None

-- Of a line `a started`: a.
abbrev pub says_started : Line → Option UniqueAddress
says_started (lines.Started a) = Some a
says_started line = None

-- A message that was told, and the numbers of the tables that were adopted then.
pub record Told : Type 0 where
  pub message : Tell
  pub numbers : OfKinds ℕ

-- ---- the newest line first

abbrev pub adopted_more : UniqueAddress → UniqueAddress → Option ((Way × Kind) × ℕ) → OfKinds ℕ → OfKinds ℕ
adopted_more a b None numbers = numbers
adopted_more a b (Some ((way, kind), number)) numbers = cond (is_way a b way) (change_kind kind (λ n. number) numbers) numbers

-- The number of the last table of each kind that a adopted from b, and 0 where there is none.
abbrev pub adopted_by : UniqueAddress → UniqueAddress → List Line → OfKinds ℕ
adopted_by a b [] = of_each 0
adopted_by a b (l ∷ ls) = adopted_more a b (says_adopted l) (adopted_by a b ls)

abbrev pub told_more : UniqueAddress → UniqueAddress → ℕ → Option ((Way × ℕ) × Tell) → OfKinds ℕ → List Told → List Told
told_more a b d None numbers told = told
told_more a b d (Some (key, message)) numbers told = cond (is_dial a b d key) (told ++ record { message = message; numbers = numbers } ∷ []) told

-- What a told b on its connection d, in order.
abbrev pub told_by : UniqueAddress → UniqueAddress → ℕ → List Line → List Told
told_by a b d [] = []
told_by a b d (l ∷ ls) = told_more a b d (says_told l) (adopted_by a b ls) (told_by a b d ls)

abbrev pub got_more : UniqueAddress → UniqueAddress → ℕ → Option ((Way × Option ℕ) × Tell) → List Tell → List Tell
got_more a b d None got = got
got_more a b d (Some (key, message)) got = cond (is_nonce b a d key) (got ++ message ∷ []) got

-- What b got from a with the nonce d, in order.
abbrev pub got_by : UniqueAddress → UniqueAddress → ℕ → List Line → List Tell
got_by a b d [] = []
got_by a b d (l ∷ ls) = got_more a b d (says_got l) (got_by a b d ls)

abbrev pub name_more : ℕ → Option UniqueAddress → UniqueAddress → UniqueAddress
name_more uid None other = other
name_more uid (Some a) other = cond (a.uid == uid) a other

-- Who started with this UID, and nobody where none did.
abbrev pub name_by : UniqueAddress → ℕ → List Line → UniqueAddress
name_by nobody uid [] = nobody
name_by nobody uid (l ∷ ls) = name_more uid (says_started l) (name_by nobody uid ls)

-- The messages alone.
abbrev pub messages : List Told → List Tell
messages told = map (λ (t : Told). t.message) told

-- ---- the lines of a network

-- The lines among what came of a network, the newest first, before others.
abbrev pub newest : List Outcome → List Line → List Line
newest [] seen = seen
newest (outcomes.Line moment line ∷ rest) seen = newest rest (line ∷ seen)
newest (outcomes.Wrote uid dial bytes ∷ rest) seen = newest rest seen

pub newest_line : (os : List Outcome) (seen : List Line) (m : ℕ) (l : Line) → newest (os ++ outcomes.Line m l ∷ []) seen ≡ l ∷ newest os seen
newest_line [] seen m l = refl
newest_line (outcomes.Line n k ∷ os) seen m l = newest_line os (k ∷ seen) m l
newest_line (outcomes.Wrote u d bytes ∷ os) seen m l = newest_line os seen m l

pub newest_wrote : (os : List Outcome) (seen : List Line) (u d : ℕ) (bytes : List ℕ) → newest (os ++ outcomes.Wrote u d bytes ∷ []) seen ≡ newest os seen
newest_wrote [] seen u d bytes = refl
newest_wrote (outcomes.Line n k ∷ os) seen u d bytes = newest_wrote os (k ∷ seen) u d bytes
newest_wrote (outcomes.Wrote v e more ∷ os) seen u d bytes = newest_wrote os seen u d bytes

-- ---- a line that says nothing of these

pub record IsSilent (l : Line) : Type 0 where
  pub adopted : says_adopted l ≡ None
  pub told : says_told l ≡ None
  pub got : says_got l ≡ None
  pub started : says_started l ≡ None

-- What is read is the same in both.
pub record SameTalk (ls ks : List Line) : Type 0 where
  pub adopted : (a b : UniqueAddress) → adopted_by a b ks ≡ adopted_by a b ls
  pub told : (a b : UniqueAddress) (d : ℕ) → told_by a b d ks ≡ told_by a b d ls
  pub got : (a b : UniqueAddress) (d : ℕ) → got_by a b d ks ≡ got_by a b d ls
  pub name : (nobody : UniqueAddress) (uid : ℕ) → name_by nobody uid ks ≡ name_by nobody uid ls

-- But for what was got.
pub record SameSaid (ls ks : List Line) : Type 0 where
  pub adopted : (a b : UniqueAddress) → adopted_by a b ks ≡ adopted_by a b ls
  pub told : (a b : UniqueAddress) (d : ℕ) → told_by a b d ks ≡ told_by a b d ls
  pub name : (nobody : UniqueAddress) (uid : ℕ) → name_by nobody uid ks ≡ name_by nobody uid ls

pub same_said : (ls ks : List Line) → SameTalk ls ks → SameSaid ls ks
same_said ls ks s = record { adopted = s.adopted; told = s.told; name = s.name }

pub same_talk : (ls : List Line) → SameTalk ls ls
same_talk ls = record { adopted = λ a b. refl; told = λ a b d. refl; got = λ a b d. refl; name = λ x uid. refl }

pub same_then : (ls ks js : List Line) → SameTalk ls ks → SameTalk ks js → SameTalk ls js
same_then ls ks js f g = record {
  adopted = λ a b. g.adopted a b ∙ f.adopted a b;
  told = λ a b d. g.told a b d ∙ f.told a b d;
  got = λ a b d. g.got a b d ∙ f.got a b d;
  name = λ x uid. g.name x uid ∙ f.name x uid;
}

pub silent_same : (l : Line) (ls : List Line) → IsSilent l → SameTalk ls (l ∷ ls)
silent_same l ls s = record {
  adopted = λ a b. ap (λ x. adopted_more a b x (adopted_by a b ls)) s.adopted;
  told = λ a b d. ap (λ x. told_more a b d x (adopted_by a b ls) (told_by a b d ls)) s.told;
  got = λ a b d. ap (λ x. got_more a b d x (got_by a b d ls)) s.got;
  name = λ x uid. ap (λ y. name_more uid y (name_by x uid ls)) s.started;
}
