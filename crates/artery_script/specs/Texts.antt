-- The texts of events and requests. Each has one.
use Rattle.std.specs.Prelude.{ℕ, Bool, true, false, List, [], ◌∷◌, ◌++◌, codes, decimal, Option, Some, None}
use Rattle.std.specs.Fmt.{signed_decimal}
use Rattle.artery_base.specs.declared.message.SysMsg.{SysMsg}
use Rattle.artery_base.specs.declared.message.Tell.{Tell}
use Rattle.artery_base.specs.declared.message.Request.{Request}
use Rattle.artery_base.specs.declared.message.Request.TheVariants as requests
use Rattle.artery_text.specs.Spelling.{address_text, word_text, hex_text}
use Rattle.artery_script.specs.declared.event.Event.{Event}
use Rattle.artery_script.specs.declared.event.Event.TheVariants as events

-- a system message: its serializer, its manifest as a word, its payload in hexadecimal
abbrev pub message_fields : SysMsg → List (List ℕ)
message_fields m = signed_decimal m.serializer ∷ word_text m.manifest ∷ hex_text m.payload ∷ []

-- an ordinary message: sender and recipient as words, and then as a system message
abbrev pub tell_fields : Tell → List (List ℕ)
tell_fields m = word_text m.sender ∷ word_text m.recipient ∷ signed_decimal m.serializer ∷ word_text m.manifest ∷ hex_text m.payload ∷ []

-- a request: its word, and what it asks
abbrev pub request_fields : Request → List (List ℕ)
request_fields (requests.Pair address) = codes "pair" ∷ address_text address ∷ []
request_fields (requests.Send address message) = codes "send" ∷ address_text address ∷ message_fields message
request_fields (requests.Tell address message) = codes "tell" ∷ address_text address ∷ tell_fields message
request_fields (requests.Watch path watchee) = codes "watch" ∷ path ∷ watchee ∷ []
request_fields (requests.Unwatch path watchee) = codes "unwatch" ∷ path ∷ watchee ∷ []
request_fields (requests.Spawn path) = codes "spawn" ∷ path ∷ []
request_fields (requests.Kill path) = codes "kill" ∷ path ∷ []
request_fields (requests.Quarantine address) = codes "quarantine" ∷ address_text address ∷ []

-- a request line of a node, with `same` before the request or without
abbrev pub asked_fields : Bool × Request → List (List ℕ)
asked_fields (false, request) = request_fields request
asked_fields (true, request) = codes "same" ∷ request_fields request

-- one dial's number, or `all`
abbrev pub dials_text : Option ℕ → List ℕ
dials_text None = codes "all"
dials_text (Some dial) = decimal dial

-- an event: its word, whom it happens to, and what it is
abbrev pub event_fields : Event → List (List ℕ)
event_fields (events.Start unique) = codes "start" ∷ address_text unique.address ∷ decimal unique.uid ∷ []
event_fields (events.Stop uid) = codes "stop" ∷ decimal uid ∷ []
event_fields (events.At uid request) = codes "at" ∷ decimal uid ∷ request_fields request
event_fields (events.Tick uid moment) = codes "tick" ∷ decimal uid ∷ decimal moment ∷ []
event_fields (events.Answer uid dial) = codes "answer" ∷ decimal uid ∷ decimal dial ∷ []
event_fields (events.Fail uid dial) = codes "fail" ∷ decimal uid ∷ decimal dial ∷ []
event_fields (events.Carry uid dial count) = codes "carry" ∷ decimal uid ∷ decimal dial ∷ decimal count ∷ []
event_fields (events.Cut uid dial) = codes "cut" ∷ decimal uid ∷ decimal dial ∷ []
event_fields (events.End uid dial) = codes "end" ∷ decimal uid ∷ decimal dial ∷ []
event_fields (events.CutAll uid) = codes "cut" ∷ decimal uid ∷ codes "all" ∷ []
event_fields (events.EndAll uid) = codes "end" ∷ decimal uid ∷ codes "all" ∷ []
event_fields (events.Pass rounds) = codes "pass" ∷ decimal rounds ∷ []

-- fields, each behind one space
abbrev pub spaced : List (List ℕ) → List ℕ
spaced [] = []
spaced (field ∷ fields) = 32 ∷ (field ++ spaced fields)

-- fields with one space between each two
abbrev pub row : List (List ℕ) → List ℕ
row [] = []
row (field ∷ fields) = field ++ spaced fields

-- the line that tells an event, without its line feed
abbrev pub event_text : Event → List ℕ
event_text event = row (event_fields event)

-- the line that tells a request of a node, without its line feed
abbrev pub asked_text : Bool × Request → List ℕ
asked_text asked = row (asked_fields asked)
