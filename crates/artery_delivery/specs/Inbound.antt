-- The system messages from many origins: the number expected of each, and the whole lists that they stand for.
use Rattle.std.specs.Prelude.{◌≡◌, ℕ, ◌+◌, ◌-◌, Bool, ◌&&◌, ◌==◌, nat_lt, nat_le, List, [], ◌∷◌, ◌++◌, length, map, Option, is_some, IsSome, unwrap_or, if◌then◌else◌}
use Rattle.std.specs.Map.{lookup, set_value}
use Rattle.artery_base.specs.declared.message.SysMsg.{SysMsg}
use Rattle.artery_base.specs.declared.address.UniqueAddress.{UniqueAddress}
use Rattle.artery_base.specs.contracts.address.UniqueAddressPartialEq.TheImpl as unique_eq
use Rattle.artery_delivery.specs.Limits.{most_origins, never_expected}
use Rattle.artery_delivery.specs.declared.inbound.Opened.{Opened}
use Rattle.artery_delivery.specs.declared.inbound.Opened.TheVariants.{Opened as NewlyOpened, Known, OriginsFull}
use Rattle.artery_delivery.specs.declared.inbound.Take.{Take}
use Rattle.artery_delivery.specs.declared.inbound.Take.TheVariants.{Taken, Again, Gap}

-- Whether two unique addresses are equal.
abbrev pub same_origin : UniqueAddress → UniqueAddress → Bool
same_origin = (unique_eq.ghosts).eq

-- The number expected of an origin, if it is known.
abbrev pub expected_of : UniqueAddress → List (UniqueAddress × ℕ) → Option ℕ
expected_of origin entries = lookup (same_origin origin) entries

-- A known origin stays; a new one is refused beside 1,024 others, and else opened.
abbrev pub opening : UniqueAddress → List (UniqueAddress × ℕ) → Opened
opening origin entries =
    if is_some (expected_of origin entries) then Known
    else if nat_le most_origins (length entries) then OriginsFull else NewlyOpened

-- The entries after an answer: a newly opened origin is the last, and number 1 is expected of it; else nothing changes.
abbrev pub entries_after : Opened → UniqueAddress → List (UniqueAddress × ℕ) → List (UniqueAddress × ℕ)
entries_after NewlyOpened origin entries = entries ++ (origin, 1) ∷ []
entries_after Known origin entries = entries
entries_after OriginsFull origin entries = entries

-- The entries after an origin is opened, is known already or is refused.
abbrev pub with_origin : UniqueAddress → List (UniqueAddress × ℕ) → List (UniqueAddress × ℕ)
with_origin origin entries = entries_after (opening origin entries) origin entries

-- Whether an origin is known.
abbrev pub IsKnown : UniqueAddress → List (UniqueAddress × ℕ) → Type 0
IsKnown origin entries = IsSome (expected_of origin entries)

-- An origin is known after it was opened or was known already.
abbrev pub IsKnownAfter : Opened → UniqueAddress → List (UniqueAddress × ℕ) → Type 0
IsKnownAfter NewlyOpened origin entries = IsKnown origin entries
IsKnownAfter Known origin entries = IsKnown origin entries
IsKnownAfter OriginsFull origin entries = Unit {0}

-- The number expected of an origin. Of one that is not known, the first is expected.
abbrev pub next_of : UniqueAddress → List (UniqueAddress × ℕ) → ℕ
next_of origin entries = unwrap_or (expected_of origin entries) 1

-- Whether a number is the expected one. The last number of its type never is.
abbrev pub is_expected : ℕ → ℕ → Bool
is_expected n expected = (n == expected) && nat_lt n never_expected

-- A number is taken where it is the expected one; below that it is Again, and else Gap. The last number taken is the expected one less one.
abbrev pub taking : UniqueAddress → ℕ → List (UniqueAddress × ℕ) → Take
taking origin n entries =
    if nat_lt n (next_of origin entries) then Again (next_of origin entries - 1)
    else if is_expected n (next_of origin entries) then Taken else Gap (next_of origin entries - 1)

-- Where a number is taken, one more is expected of its origin. Nothing else changes.
abbrev pub with_taken : UniqueAddress → ℕ → List (UniqueAddress × ℕ) → List (UniqueAddress × ℕ)
with_taken origin n entries =
    if is_expected n (next_of origin entries) then set_value (same_origin origin) entries (n + 1) else entries

-- All messages taken from an origin, if it is known: the whole list, never shortened.
abbrev pub taken_of : UniqueAddress → List (UniqueAddress × List SysMsg) → Option (List SysMsg)
taken_of origin all = lookup (same_origin origin) all

-- A known origin stays; a new one is refused beside 1,024 others, and else opened.
abbrev pub answer_to_open : UniqueAddress → List (UniqueAddress × List SysMsg) → Opened
answer_to_open origin all =
    if is_some (taken_of origin all) then Known
    else if nat_le most_origins (length all) then OriginsFull else NewlyOpened

-- The lists after an answer: a newly opened origin is the last, and nothing is taken from it yet; else nothing changes.
abbrev pub lists_after : Opened → UniqueAddress → List (UniqueAddress × List SysMsg) → List (UniqueAddress × List SysMsg)
lists_after NewlyOpened origin all = all ++ (origin, []) ∷ []
lists_after Known origin all = all
lists_after OriginsFull origin all = all

-- The lists after an origin is opened, is known already or is refused.
abbrev pub opened : UniqueAddress → List (UniqueAddress × List SysMsg) → List (UniqueAddress × List SysMsg)
opened origin all = lists_after (answer_to_open origin all) origin all

-- The messages taken from an origin. From one that is not known, none is taken.
abbrev pub messages_from : UniqueAddress → List (UniqueAddress × List SysMsg) → List SysMsg
messages_from origin all = unwrap_or (taken_of origin all) []

-- A number is Again up to the number of messages taken, Taken where it is the next one and not the last of its type, and else Gap.
abbrev pub answer_to_take : UniqueAddress → ℕ → List (UniqueAddress × List SysMsg) → Take
answer_to_take origin n all =
    if nat_le n (length (messages_from origin all)) then Again (length (messages_from origin all))
    else if is_expected n (length (messages_from origin all) + 1) then Taken else Gap (length (messages_from origin all))

-- A message that is taken is the last one of those from its origin, and nothing else changes.
abbrev pub taken : UniqueAddress → ℕ → SysMsg → List (UniqueAddress × List SysMsg) → List (UniqueAddress × List SysMsg)
taken origin n message all =
    if is_expected n (length (messages_from origin all) + 1)
    then set_value (same_origin origin) all (messages_from origin all ++ message ∷ [])
    else all

-- The expected numbers stand for the messages taken: of each origin, in the same order, one more than were taken from it is expected.
pub record Stands (entries : List (UniqueAddress × ℕ)) (all : List (UniqueAddress × List SysMsg)) : Type 0 where
  pub numbers : entries ≡ map (λ e. (e.0, length e.1 + 1)) all
