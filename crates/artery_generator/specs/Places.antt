-- The three places of a script, and who lives there.
use Rattle.std.specs.Prelude.{ℕ, ◌==◌, if◌then◌else◌, List, ◌++◌, codes}
use Rattle.artery_base.specs.declared.address.Address.{Address}
use Rattle.artery_generator.specs.declared.place.Place.{Place}
use Rattle.artery_generator.specs.declared.place.Place.TheVariants.{A, B, C}
use Rattle.artery_generator.specs.declared.live.Live.{Live}

-- The places are numbered 0 to 2.
abbrev pub place : ℕ → Place
place n = if n == 0 then A else if n == 1 then B else C

-- An address of these systems: all have one protocol and one port.
abbrev pub address_named : List ℕ → List ℕ → Address
address_named system host = record { protocol = codes "akka"; system = system; host = host; port = 25520 }

-- The address of the system at a place.
abbrev pub address_of : Place → Address
address_of A = address_named (codes "A") (codes "h1")
address_of B = address_named (codes "B") (codes "h2")
address_of C = address_named (codes "C") (codes "h3")

-- The text of that address.
abbrev pub address_told : Place → List ℕ
address_told A = codes "akka://A@h1:25520"
address_told B = codes "akka://B@h2:25520"
address_told C = codes "akka://C@h3:25520"

-- An actor at a place: the text of the place's address, and behind it the actor's path.
abbrev pub actor_at : Place → List ℕ → List ℕ
actor_at p path = address_told p ++ path

-- The path of the actors that watch and tell.
abbrev pub watching_path : List ℕ
watching_path = codes "/user/w"

-- The path of the actors that are watched and told.
abbrev pub watched_path : List ℕ
watched_path = codes "/user/x"

-- The first of the two other places, in order.
abbrev pub first_other : Place → Place
first_other A = B
first_other B = A
first_other C = A

-- The second of them.
abbrev pub second_other : Place → Place
second_other A = C
second_other B = C
second_other C = B

-- At first 1, 2 and 3 live.
abbrev pub first_live : Live
first_live = record { a = 1; b = 2; c = 3 }

-- The UID that lives at a place.
abbrev pub uid_at : Place → Live → ℕ
uid_at A live = live.a
uid_at B live = live.b
uid_at C live = live.c

-- Another incarnation lives at a place.
abbrev pub with_uid : Place → ℕ → Live → Live
with_uid A uid live = record live { a = uid }
with_uid B uid live = record live { b = uid }
with_uid C uid live = record live { c = uid }
