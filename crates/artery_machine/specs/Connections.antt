-- Connections of a network: who dialed, whom they reach, and what is on them.
use Rattle.std.specs.Prelude.{ℕ, ◌+◌, ◌==◌, nat_lt, Bool, true, false, ◌&&◌, if◌then◌else◌, List, [], ◌∷◌, length, position, Option}
use Rattle.artery_machine.specs.Deeds.{Writing}
use Rattle.artery_machine.specs.Ways.{Ways}

-- A connection: the UID of who dialed it, the number of that dial, the UID of whom it reaches, its number there, whether its near side is open, and what is on it. Its far side is open as long as its way is.
pub record Connection (W : Ways) : Type 0 where
  pub dialer : ℕ
  pub dial : ℕ
  pub far : ℕ
  pub number : ℕ
  pub near_open : Bool
  pub way : W.Way

module _ {W : Ways} where
  -- A connection that was just made.
  abbrev pub connected : ℕ → ℕ → ℕ → ℕ → Connection W
  connected dialer dial far number = record {
    dialer = dialer;
    dial = dial;
    far = far;
    number = number;
    near_open = true;
    way = W.nothing_written;
  }

  -- Whether a connection has this dialer and this dial number.
  abbrev pub is_dialed : ℕ → ℕ → Connection W → Bool
  is_dialed uid dial c = (c.dialer == uid) && (c.dial == dial)

  -- Whether a connection reaches this incarnation under this number.
  abbrev pub is_inward : ℕ → ℕ → Connection W → Bool
  is_inward uid number c = (c.far == uid) && (c.number == number)

  -- Whether its far side is open.
  abbrev pub far_open : Connection W → Bool
  far_open c = W.is_open c.way

  -- The bytes that are on their way.
  abbrev pub undelivered_on : Connection W → List ℕ
  undelivered_on c = W.undelivered c.way

  -- Whether bytes are on their way.
  abbrev pub is_loaded : Connection W → Bool
  is_loaded c = nat_lt 0 (length (undelivered_on c))

  -- How many bytes are on their way.
  abbrev pub load : Connection W → ℕ
  load c = length (undelivered_on c)

  -- How many bytes are on their way on all of these.
  abbrev pub loads : List (Connection W) → ℕ
  loads [] = 0
  loads (c ∷ cs) = load c + loads cs

  -- Its near side has ended.
  abbrev pub near_ended : Connection W → Connection W
  near_ended c = record c { near_open = false }

  -- Its far side has ended.
  abbrev pub far_ended : Connection W → Connection W
  far_ended c = record c { way = W.ended c.way }

  -- A connection once the incarnation with this UID has stopped: the near side of an own one has ended, and so has the far side of one made to it.
  abbrev pub ended_with : ℕ → Connection W → Connection W
  ended_with uid c = near (far c)
    where
      far : Connection W → Connection W
      far c = if c.far == uid then far_ended c else c

      near : Connection W → Connection W
      near c = if c.dialer == uid then near_ended c else c

  -- Something more was written, with these bytes.
  abbrev pub with_writing : Writing → List ℕ → Connection W → Connection W
  with_writing writing bytes c = record c { way = W.wrote writing bytes c.way }

  -- So many more bytes were delivered.
  abbrev pub with_delivered : ℕ → Connection W → Connection W
  with_delivered count c = record c { way = W.delivered_more count c.way }

  -- Where the first connection with this dialer and dial number stands among those made, counted from 0.
  abbrev pub place_dialed : ℕ → ℕ → List (Connection W) → Option ℕ
  place_dialed uid dial cs = position (is_dialed uid dial) cs

  -- Where the first connection stands that reaches this incarnation under this number.
  abbrev pub place_inward : ℕ → ℕ → List (Connection W) → Option ℕ
  place_inward uid number cs = position (is_inward uid number) cs
