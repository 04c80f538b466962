-- A front that was copied over a buffer is the front of what is left.
use Rattle.std.proofs.Common.{◌≡◌, ℕ, ◌+◌, ◌<◌, ◌≤◌, min, List, [], ◌++◌, length, take, drop, arith, length-take, sym, ◌∙◌, ap}
use Rattle.std.proofs.lemmas.List.{take-append-drop, take_at, drop-drop, drop_all}

pub front_moved : (rest into moved : List ℕ) (n : ℕ) → n ≤ length rest → moved ≡ take n rest → rest ≡ take n (moved ++ drop n into) ++ drop n rest
front_moved rest into moved n h e =
    let long : length (take n rest) ≡ n = omega (arith, length-take n rest) in
    rw e (sym (take-append-drop n rest) ∙ ap (λ front. front ++ drop n rest) (sym (take_at (take n rest) (drop n into) n long)))

-- what is left behind a front of what is left
pub left_behind : (bytes front : List ℕ) (at n : ℕ) → drop at bytes ≡ front ++ drop n (drop at bytes) → drop at bytes ≡ front ++ drop (at + n) bytes
left_behind bytes front at n h = h ∙ ap (λ rest. front ++ rest) (drop-drop n at bytes)

-- nothing was moved into a buffer with room: nothing was left
pub none_left : (rest : List ℕ) (m n : ℕ) → n ≡ min (length rest) m → n ≡ 0 → 0 < m → rest ≡ []
none_left rest m n e z h = grind (arith, drop_all 0 rest)
