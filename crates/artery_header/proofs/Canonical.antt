-- The canonical bytes of an envelope.
use Rattle.std.proofs.Common.{◌≡◌, ℕ, ◌≤◌, List, [], ◌∷◌, ◌++◌, length, take, get_or, refl, ap, ◌∙◌, arith, append_assoc, length-take}
use Rattle.std.proofs.lemmas.List.{take_all, take-append-le}
use Rattle.std.specs.Int.{cast_unsigned, w32}
use Rattle.byteorder.specs.Endian.{little_bytes}
use Rattle.artery_header.specs.Envelope.{EnvelopeOf, numbers, tags, header_len, tag_of, recipient_at, manifest_at, IsFrontOf}

-- the cells of the numbers of a header
pub number_cells : (c : EnvelopeOf) (u s : List ℕ) → u ≡ little_bytes 8 c.uid → s ≡ little_bytes 4 (cast_unsigned w32 c.serializer)
    → 0 ∷ 0 ∷ c.refs_version ∷ c.manifests_version
    ∷ get_or u 0 0 ∷ get_or u 1 0 ∷ get_or u 2 0 ∷ get_or u 3 0 ∷ get_or u 4 0 ∷ get_or u 5 0 ∷ get_or u 6 0 ∷ get_or u 7 0
    ∷ get_or s 0 0 ∷ get_or s 1 0 ∷ get_or s 2 0 ∷ get_or s 3 0 ∷ [] ≡ numbers c
unfolding numbers
number_cells c u s eu es = rw (eu, es) refl

-- the cells of its tags
pub tag_cells : (c : EnvelopeOf) (a b d : List ℕ)
    → a ≡ little_bytes 4 (tag_of header_len c.sender) → b ≡ little_bytes 4 (tag_of (recipient_at c) c.recipient) → d ≡ little_bytes 4 (tag_of (manifest_at c) c.manifest)
    → get_or a 0 0 ∷ get_or a 1 0 ∷ get_or a 2 0 ∷ get_or a 3 0
    ∷ get_or b 0 0 ∷ get_or b 1 0 ∷ get_or b 2 0 ∷ get_or b 3 0
    ∷ get_or d 0 0 ∷ get_or d 1 0 ∷ get_or d 2 0 ∷ get_or d 3 0 ∷ [] ≡ tags c
unfolding tags
tag_cells c a b d ea eb ed = rw (ea, eb, ed) refl

-- what is appended part by part is appended
pub in_front : (old n t s r m p : List ℕ) → (((((old ++ n) ++ t) ++ s) ++ r) ++ m) ++ p ≡ old ++ (((((n ++ t) ++ s) ++ r) ++ m) ++ p)
in_front old n t s r m p = simp append_assoc

pub front_same : (old : List ℕ) → IsFrontOf old old
front_same old = take_all (length old) old (omega arith)

-- a list that begins with the old one still does with more behind it
pub front_more : (old mid new more : List ℕ) → IsFrontOf old mid → new ≡ mid ++ more → IsFrontOf old new
front_more old mid new more f e =
    let long : length old ≤ length mid = omega (arith, length-take (length old) mid, ap length f) in
    ap (take (length old)) e ∙ take-append-le (length old) mid more long ∙ f
