-- The fields of messages, requests and events are read exactly, and so are their lines.
use Rattle.std.proofs.Common.{◌≡◌, ℕ, ◌<◌, Bool, true, false, eqb, List, [], ◌∷◌, ◌++◌, length, Option, Some, None, refl, sym, ap, ◌∙◌, subst, arith}
use Rattle.std.specs.Prelude.{ℤ, FitsSigned, codes, decimal}
use Rattle.std.specs.Fmt.{signed_decimal}
use Rattle.std.specs.Int.{w32}
use Rattle.std.proofs.lemmas.Bool.{eqb-true}
use Rattle.std.proofs.lemmas.List.{append-nil}
use Rattle.artery_base.specs.declared.message.SysMsg.{SysMsg}
use Rattle.artery_base.specs.declared.message.Tell.{Tell}
use Rattle.artery_base.specs.declared.message.Request.{Request}
use Rattle.artery_base.specs.declared.message.Request.TheVariants as requests
use Rattle.artery_base.specs.Valid.{AreBytes, IsAddress}
use Rattle.artery_text.specs.Spelling.{address_text, word_text, hex_text}
use Rattle.artery_text.specs.Reading.{number_of, int32_of}
use Rattle.artery_lines.specs.Lines.{◌>>=◌, tokens_of}
use Rattle.artery_script.specs.declared.event.Event.{Event}
use Rattle.artery_script.specs.declared.event.Event.TheVariants as events
use Rattle.artery_script.specs.Texts.{message_fields, tell_fields, request_fields, asked_fields, dials_text, event_fields, row, event_text, asked_text}
use Rattle.artery_script.specs.Valid.{IsNumber, IsMoment, IsCount, IsRounds, IsDials, IsOrdinary, IsPayload, IsManifest, IsName, IsMessage, IsTell, IsPath, IsReference, IsRequest, BearsMessage, IsAsked, IsEvent, MessageHasBytes, RequestHasBytes, EventHasBytes}
use Rattle.artery_script.specs.Reading.{field, both, made, ended, by_word, address_told, manifest_told, payload_told, name_told, ordinary_told, moment_told, count_told, rounds_told, dials_told, path_told, reference_told, message_in, tell_in, address_message, address_tell, path_reference, bearing_named, request_named, bearing_in, request_in, asked_named, asked_of, two_numbers, uid_dials, cut_of, end_of, connection_named, event_named, event_of}
use Rattle.artery_script.proofs.Formats.{NoSpaces, IsFormat, Always, field_format, both_format, made_reads, made_spelled, verb_row, some_is, steps, cut_again, uncut}
use Rattle.artery_script.proofs.FieldLaws.{TextLaws, number_field, int32_field, address_field, manifest_field, payload_field, name_field, ordinary_field, moment_field, count_field, rounds_field, dials_field, path_field, cond_some}
use Rattle.artery_script.proofs.ActorLaws.{reference_field}

-- ---- single fields

number_format : TextLaws → IsFormat (field number_of) (λ n. decimal n ∷ []) IsNumber Always
number_format l = field_format number_of decimal IsNumber Always (number_field l)

moment_format : TextLaws → IsFormat (field moment_told) (λ n. decimal n ∷ []) IsMoment Always
moment_format l = field_format moment_told decimal IsMoment Always (moment_field l)

count_format : TextLaws → IsFormat (field count_told) (λ n. decimal n ∷ []) IsCount Always
count_format l = field_format count_told decimal IsCount Always (count_field l)

rounds_format : TextLaws → IsFormat (field rounds_told) (λ n. decimal n ∷ []) IsRounds Always
rounds_format l = field_format rounds_told decimal IsRounds Always (rounds_field l)

dials_format : TextLaws → IsFormat (field dials_told) (λ d. dials_text d ∷ []) IsDials Always
dials_format l = field_format dials_told dials_text IsDials Always (dials_field l)

address_format : TextLaws → IsFormat (field address_told) (λ a. address_text a ∷ []) IsAddress Always
address_format l = field_format address_told address_text IsAddress Always (address_field l)

int32_format : TextLaws → IsFormat (field int32_of) (λ z. signed_decimal z ∷ []) (λ z. FitsSigned w32 z) Always
int32_format l = field_format int32_of signed_decimal (λ z. FitsSigned w32 z) Always (int32_field l)

ordinary_format : TextLaws → IsFormat (field ordinary_told) (λ z. signed_decimal z ∷ []) IsOrdinary Always
ordinary_format l = field_format ordinary_told signed_decimal IsOrdinary Always (ordinary_field l)

manifest_format : TextLaws → IsFormat (field manifest_told) (λ x. word_text x ∷ []) IsManifest AreBytes
manifest_format l = field_format manifest_told word_text IsManifest AreBytes (manifest_field l)

payload_format : TextLaws → IsFormat (field payload_told) (λ x. hex_text x ∷ []) IsPayload AreBytes
payload_format l = field_format payload_told hex_text IsPayload AreBytes (payload_field l)

name_format : TextLaws → IsFormat (field name_told) (λ x. word_text x ∷ []) IsName Always
name_format l = field_format name_told word_text IsName Always (name_field l)

path_format : IsFormat (field path_told) (λ p. p ∷ []) IsPath Always
path_format = field_format path_told (λ p. p) IsPath Always path_field

reference_format : TextLaws → IsFormat (field reference_told) (λ x. x ∷ []) IsReference Always
reference_format l = field_format reference_told (λ x. x) IsReference Always (reference_field l)

-- ---- messages

abbrev message_made : ℤ × (List ℕ × List ℕ) → SysMsg
message_made p = record { serializer = p.0; manifest = p.1.0; payload = p.1.1 }

message_parts : TextLaws → IsFormat (both (field int32_of) (both (field manifest_told) (field payload_told))) (λ p. signed_decimal p.0 ∷ word_text p.1.0 ∷ hex_text p.1.1 ∷ [])
    (λ p. FitsSigned w32 p.0 × (IsManifest p.1.0 × IsPayload p.1.1)) (λ p. Always p.0 × (AreBytes p.1.0 × AreBytes p.1.1))
message_parts l = both_format _ _ _ _ _ _ _ _ (int32_format l) (both_format _ _ _ _ _ _ _ _ (manifest_format l) (payload_format l))

message_format : TextLaws → IsFormat message_in message_fields IsMessage MessageHasBytes
message_format l = record {
  spelled = λ ts m left h. made_spelled message_made _ _ _ _ IsMessage message_fields (message_parts l) (λ a v. record { serializer = v.0; manifest = v.1.0; payload = v.1.1 }) (λ a. refl) ts m left h;
  reads = λ m left v b. made_reads message_made _ _ _ _ (message_parts l) (m.serializer, (m.manifest, m.payload)) left (v.serializer, (v.manifest, v.payload)) (tt, (b.manifest, b.payload));
  tokens = λ m v b. (message_parts l).tokens (m.serializer, (m.manifest, m.payload)) (v.serializer, (v.manifest, v.payload)) (tt, (b.manifest, b.payload));
}

abbrev tell_made : (List ℕ × List ℕ) × (ℤ × (List ℕ × List ℕ)) → Tell
tell_made p = record { sender = p.0.0; recipient = p.0.1; serializer = p.1.0; manifest = p.1.1.0; payload = p.1.1.1 }

names_format : TextLaws → IsFormat (both (field name_told) (field name_told)) (λ p. word_text p.0 ∷ word_text p.1 ∷ []) (λ p. IsName p.0 × IsName p.1) (λ p. Always p.0 × Always p.1)
names_format l = both_format _ _ _ _ _ _ _ _ (name_format l) (name_format l)

content_format : TextLaws → IsFormat (both (field ordinary_told) (both (field name_told) (field payload_told))) (λ p. signed_decimal p.0 ∷ word_text p.1.0 ∷ hex_text p.1.1 ∷ [])
    (λ p. IsOrdinary p.0 × (IsName p.1.0 × IsPayload p.1.1)) (λ p. Always p.0 × (Always p.1.0 × AreBytes p.1.1))
content_format l = both_format _ _ _ _ _ _ _ _ (ordinary_format l) (both_format _ _ _ _ _ _ _ _ (name_format l) (payload_format l))

tell_parts : TextLaws → IsFormat (both (both (field name_told) (field name_told)) (both (field ordinary_told) (both (field name_told) (field payload_told))))
    (λ p. word_text p.0.0 ∷ word_text p.0.1 ∷ signed_decimal p.1.0 ∷ word_text p.1.1.0 ∷ hex_text p.1.1.1 ∷ [])
    (λ p. (IsName p.0.0 × IsName p.0.1) × (IsOrdinary p.1.0 × (IsName p.1.1.0 × IsPayload p.1.1.1))) (λ p. (Always p.0.0 × Always p.0.1) × (Always p.1.0 × (Always p.1.1.0 × AreBytes p.1.1.1)))
tell_parts l = both_format _ _ _ _ _ _ _ _ (names_format l) (content_format l)

tell_format : TextLaws → IsFormat tell_in tell_fields IsTell (λ m. AreBytes m.payload)
tell_format l = record {
  spelled = λ ts m left h. made_spelled tell_made _ _ _ _ IsTell tell_fields (tell_parts l) (λ a v. record { sender = v.0.0; recipient = v.0.1; serializer = v.1.0; manifest = v.1.1.0; payload = v.1.1.1 }) (λ a. refl) ts m left h;
  reads = λ m left v b. made_reads tell_made _ _ _ _ (tell_parts l) ((m.sender, m.recipient), (m.serializer, (m.manifest, m.payload))) left ((v.sender, v.recipient), (v.serializer, (v.manifest, v.payload))) ((tt, tt), (tt, (tt, b)));
  tokens = λ m v b. (tell_parts l).tokens ((m.sender, m.recipient), (m.serializer, (m.manifest, m.payload))) ((v.sender, v.recipient), (v.serializer, (v.manifest, v.payload))) ((tt, tt), (tt, (tt, b)));
}

-- ---- requests

send_format : TextLaws → IsFormat address_message (λ p. address_text p.0 ∷ message_fields p.1) (λ p. IsAddress p.0 × IsMessage p.1) (λ p. Always p.0 × MessageHasBytes p.1)
send_format l = both_format _ _ _ _ _ _ _ _ (address_format l) (message_format l)

told_format : TextLaws → IsFormat address_tell (λ p. address_text p.0 ∷ tell_fields p.1) (λ p. IsAddress p.0 × IsTell p.1) (λ p. Always p.0 × AreBytes p.1.payload)
told_format l = both_format _ _ _ _ _ _ _ _ (address_format l) (tell_format l)

watch_format : TextLaws → IsFormat path_reference (λ p. p.0 ∷ p.1 ∷ []) (λ p. IsPath p.0 × IsReference p.1) (λ p. Always p.0 × Always p.1)
watch_format l = both_format _ _ _ _ _ _ _ _ path_format (reference_format l)

abbrev IsBearing : Request → Type 0
IsBearing x = IsRequest x × BearsMessage x

bearing_is : TextLaws → (t : List ℕ) (ts : List (List ℕ)) (x : Request) (left : List (List ℕ)) → bearing_named t ts ≡ Some (x, left) → IsBearing x × (t ∷ ts ≡ request_fields x ++ left)
bearing_is l t ts x left h =
    verb_row t (codes "send") (λ p. requests.Send p.0 p.1) _ _ _ _ IsBearing request_fields ts x left _ (send_format l) h (λ a v. (v, tt)) (λ a. refl)
    (λ h. verb_row t (codes "tell") (λ p. requests.Tell p.0 p.1) _ _ _ _ IsBearing request_fields ts x left _ (told_format l) h (λ a v. (v, tt)) (λ a. refl)
    (λ h. absurd cc))

request_is : TextLaws → (t : List ℕ) (ts : List (List ℕ)) (x : Request) (left : List (List ℕ)) → request_named t ts ≡ Some (x, left) → IsRequest x × (t ∷ ts ≡ request_fields x ++ left)
request_is l t ts x left h =
    verb_row t (codes "pair") (λ a. requests.Pair a) _ _ _ _ IsRequest request_fields ts x left _ (address_format l) h (λ a v. v) (λ a. refl)
    (λ h. verb_row t (codes "watch") (λ p. requests.Watch p.0 p.1) _ _ _ _ IsRequest request_fields ts x left _ (watch_format l) h (λ a v. v) (λ a. refl)
    (λ h. verb_row t (codes "unwatch") (λ p. requests.Unwatch p.0 p.1) _ _ _ _ IsRequest request_fields ts x left _ (watch_format l) h (λ a v. v) (λ a. refl)
    (λ h. verb_row t (codes "spawn") (λ p. requests.Spawn p) _ _ _ _ IsRequest request_fields ts x left _ path_format h (λ a v. v) (λ a. refl)
    (λ h. verb_row t (codes "kill") (λ p. requests.Kill p) _ _ _ _ IsRequest request_fields ts x left _ path_format h (λ a v. v) (λ a. refl)
    (λ h. verb_row t (codes "quarantine") (λ a. requests.Quarantine a) _ _ _ _ IsRequest request_fields ts x left _ (address_format l) h (λ a v. v) (λ a. refl)
    (λ h. let b = bearing_is l t ts x left h in (b.0.0, b.1)))))))

pub by_word_is : {X : Type 0} (named : List ℕ → List (List ℕ) → Option (X × List (List ℕ))) (fields : X → List (List ℕ)) (Good : X → Type 0)
    → ((t : List ℕ) (ts : List (List ℕ)) (x : X) (left : List (List ℕ)) → named t ts ≡ Some (x, left) → Good x × (t ∷ ts ≡ fields x ++ left))
    → (ts : List (List ℕ)) (x : X) (left : List (List ℕ)) → by_word named ts ≡ Some (x, left) → Good x × (ts ≡ fields x ++ left)
by_word_is named fields Good is [] x left h = absurd cc
by_word_is named fields Good is (t ∷ ts) x left h = is t ts x left h

request_back : TextLaws → (x : Request) (left : List (List ℕ)) → IsRequest x → RequestHasBytes x → request_in (request_fields x ++ left) ≡ Some (x, left)
request_back l (requests.Pair address) left v b = made_reads (λ a. requests.Pair a) _ _ _ _ (address_format l) address left v tt
request_back l (requests.Send address message) left v b = made_reads (λ p. requests.Send p.0 p.1) _ _ _ _ (send_format l) (address, message) left v (tt, b)
request_back l (requests.Tell address message) left v b = made_reads (λ p. requests.Tell p.0 p.1) _ _ _ _ (told_format l) (address, message) left v (tt, b)
request_back l (requests.Watch path watchee) left v b = made_reads (λ p. requests.Watch p.0 p.1) _ _ _ _ (watch_format l) (path, watchee) left v (tt, tt)
request_back l (requests.Unwatch path watchee) left v b = made_reads (λ p. requests.Unwatch p.0 p.1) _ _ _ _ (watch_format l) (path, watchee) left v (tt, tt)
request_back l (requests.Spawn path) left v b = made_reads (λ p. requests.Spawn p) _ _ _ _ path_format path left v tt
request_back l (requests.Kill path) left v b = made_reads (λ p. requests.Kill p) _ _ _ _ path_format path left v tt
request_back l (requests.Quarantine address) left v b = made_reads (λ a. requests.Quarantine a) _ _ _ _ (address_format l) address left v tt

request_tokens : TextLaws → (x : Request) → IsRequest x → RequestHasBytes x → NoSpaces (request_fields x)
request_tokens l (requests.Pair address) v b = (refl, (address_format l).tokens address v tt)
request_tokens l (requests.Send address message) v b = (refl, (send_format l).tokens (address, message) v (tt, b))
request_tokens l (requests.Tell address message) v b = (refl, (told_format l).tokens (address, message) v (tt, b))
request_tokens l (requests.Watch path watchee) v b = (refl, (watch_format l).tokens (path, watchee) v (tt, tt))
request_tokens l (requests.Unwatch path watchee) v b = (refl, (watch_format l).tokens (path, watchee) v (tt, tt))
request_tokens l (requests.Spawn path) v b = (refl, path_format.tokens path v tt)
request_tokens l (requests.Kill path) v b = (refl, path_format.tokens path v tt)
request_tokens l (requests.Quarantine address) v b = (refl, (address_format l).tokens address v tt)

request_format : TextLaws → IsFormat request_in request_fields IsRequest RequestHasBytes
request_format l = record { spelled = by_word_is request_named request_fields IsRequest (request_is l); reads = request_back l; tokens = request_tokens l }

bearing_back : TextLaws → (x : Request) (left : List (List ℕ)) → IsBearing x → RequestHasBytes x → bearing_in (request_fields x ++ left) ≡ Some (x, left)
bearing_back l (requests.Send address message) left v b = made_reads (λ p. requests.Send p.0 p.1) _ _ _ _ (send_format l) (address, message) left v.0 (tt, b)
bearing_back l (requests.Tell address message) left v b = made_reads (λ p. requests.Tell p.0 p.1) _ _ _ _ (told_format l) (address, message) left v.0 (tt, b)
bearing_back l (requests.Pair address) left v b = absurd v.1
bearing_back l (requests.Watch path watchee) left v b = absurd v.1
bearing_back l (requests.Unwatch path watchee) left v b = absurd v.1
bearing_back l (requests.Spawn path) left v b = absurd v.1
bearing_back l (requests.Kill path) left v b = absurd v.1
bearing_back l (requests.Quarantine address) left v b = absurd v.1

bearing_format : TextLaws → IsFormat bearing_in request_fields IsBearing RequestHasBytes
bearing_format l = record { spelled = by_word_is bearing_named request_fields IsBearing (bearing_is l); reads = bearing_back l; tokens = λ x v b. request_tokens l x v.0 b }

-- ---- request lines of a node

abbrev Asked : Type 0
Asked = Bool × Request

plainly : TextLaws → (t : List ℕ) (ts : List (List ℕ)) (x : Asked) (left : List (List ℕ)) → made (λ r. (false, r)) (request_named t) ts ≡ Some (x, left)
    → IsAsked x × (t ∷ ts ≡ asked_fields x ++ left)
plainly l t ts x left h =
    let s = steps (request_named t ts) (λ a. Some ((false, a.0), a.1)) (x, left) h in
    let r = request_is l t ts s.value.0 s.value.1 s.first in
    subst (λ (p : Asked × List (List ℕ)). IsAsked p.0 × (t ∷ ts ≡ asked_fields p.0 ++ p.1)) (some_is ((false, s.value.0), s.value.1) (x, left) s.then_) r

asked_is : TextLaws → (t : List ℕ) (ts : List (List ℕ)) (x : Asked) (left : List (List ℕ)) → asked_named t ts ≡ Some (x, left) → IsAsked x × (t ∷ ts ≡ asked_fields x ++ left)
asked_is l t ts x left h =
    verb_row t (codes "same") (λ r. (true, r)) _ _ _ _ IsAsked asked_fields ts x left _ (bearing_format l) h (λ a v. v) (λ a. refl) (plainly l t ts x left)

asked_back : TextLaws → (x : Asked) (left : List (List ℕ)) → IsAsked x → RequestHasBytes x.1 → by_word asked_named (asked_fields x ++ left) ≡ Some (x, left)
asked_back l (true, r) left v b = made_reads (λ r. (true, r)) _ _ _ _ (bearing_format l) r left v b
asked_back l (false, requests.Pair address) left v b = ap (λ o. o >>= λ a. Some ((false, a.0), a.1)) (request_back l (requests.Pair address) left v b)
asked_back l (false, requests.Send address message) left v b = ap (λ o. o >>= λ a. Some ((false, a.0), a.1)) (request_back l (requests.Send address message) left v b)
asked_back l (false, requests.Tell address message) left v b = ap (λ o. o >>= λ a. Some ((false, a.0), a.1)) (request_back l (requests.Tell address message) left v b)
asked_back l (false, requests.Watch path watchee) left v b = ap (λ o. o >>= λ a. Some ((false, a.0), a.1)) (request_back l (requests.Watch path watchee) left v b)
asked_back l (false, requests.Unwatch path watchee) left v b = ap (λ o. o >>= λ a. Some ((false, a.0), a.1)) (request_back l (requests.Unwatch path watchee) left v b)
asked_back l (false, requests.Spawn path) left v b = ap (λ o. o >>= λ a. Some ((false, a.0), a.1)) (request_back l (requests.Spawn path) left v b)
asked_back l (false, requests.Kill path) left v b = ap (λ o. o >>= λ a. Some ((false, a.0), a.1)) (request_back l (requests.Kill path) left v b)
asked_back l (false, requests.Quarantine address) left v b = ap (λ o. o >>= λ a. Some ((false, a.0), a.1)) (request_back l (requests.Quarantine address) left v b)

asked_tokens : TextLaws → (x : Asked) → IsAsked x → RequestHasBytes x.1 → NoSpaces (asked_fields x)
asked_tokens l (true, r) v b = (refl, request_tokens l r v.0 b)
asked_tokens l (false, r) v b = request_tokens l r v b

asked_format : TextLaws → IsFormat (by_word asked_named) asked_fields IsAsked (λ x. RequestHasBytes x.1)
asked_format l = record { spelled = by_word_is asked_named asked_fields IsAsked (asked_is l); reads = asked_back l; tokens = asked_tokens l }

-- ---- events

two_format : TextLaws → IsFormat two_numbers (λ p. decimal p.0 ∷ decimal p.1 ∷ []) (λ p. IsNumber p.0 × IsNumber p.1) (λ p. Always p.0 × Always p.1)
two_format l = both_format _ _ _ _ _ _ _ _ (number_format l) (number_format l)

carry_format : TextLaws → IsFormat (both two_numbers (field count_told)) (λ p. decimal p.0.0 ∷ decimal p.0.1 ∷ decimal p.1 ∷ []) (λ p. (IsNumber p.0.0 × IsNumber p.0.1) × IsCount p.1) (λ p. (Always p.0.0 × Always p.0.1) × Always p.1)
carry_format l = both_format _ _ _ _ _ _ _ _ (two_format l) (count_format l)

sides_format : TextLaws → IsFormat uid_dials (λ p. decimal p.0 ∷ dials_text p.1 ∷ []) (λ p. IsNumber p.0 × IsDials p.1) (λ p. Always p.0 × Always p.1)
sides_format l = both_format _ _ _ _ _ _ _ _ (number_format l) (dials_format l)

start_format : TextLaws → IsFormat (both (field address_told) (field number_of)) (λ p. address_text p.0 ∷ decimal p.1 ∷ []) (λ p. IsAddress p.0 × IsNumber p.1) (λ p. Always p.0 × Always p.1)
start_format l = both_format _ _ _ _ _ _ _ _ (address_format l) (number_format l)

at_format : TextLaws → IsFormat (both (field number_of) request_in) (λ p. decimal p.0 ∷ request_fields p.1) (λ p. IsNumber p.0 × IsRequest p.1) (λ p. Always p.0 × RequestHasBytes p.1)
at_format l = both_format _ _ _ _ _ _ _ _ (number_format l) (request_format l)

tick_format : TextLaws → IsFormat (both (field number_of) (field moment_told)) (λ p. decimal p.0 ∷ decimal p.1 ∷ []) (λ p. IsNumber p.0 × IsMoment p.1) (λ p. Always p.0 × Always p.1)
tick_format l = both_format _ _ _ _ _ _ _ _ (number_format l) (moment_format l)

cut_good : (uid : ℕ) (d : Option ℕ) → IsNumber uid × IsDials d → IsEvent (cut_of uid d)
cut_good uid None v = v.0
cut_good uid (Some dial) v = v

cut_same : (uid : ℕ) (d : Option ℕ) → event_fields (cut_of uid d) ≡ codes "cut" ∷ decimal uid ∷ dials_text d ∷ []
cut_same uid None = refl
cut_same uid (Some dial) = refl

end_good : (uid : ℕ) (d : Option ℕ) → IsNumber uid × IsDials d → IsEvent (end_of uid d)
end_good uid None v = v.0
end_good uid (Some dial) v = v

end_same : (uid : ℕ) (d : Option ℕ) → event_fields (end_of uid d) ≡ codes "end" ∷ decimal uid ∷ dials_text d ∷ []
end_same uid None = refl
end_same uid (Some dial) = refl

connection_is : TextLaws → (t : List ℕ) (ts : List (List ℕ)) (x : Event) (left : List (List ℕ)) → connection_named t ts ≡ Some (x, left) → IsEvent x × (t ∷ ts ≡ event_fields x ++ left)
connection_is l t ts x left h =
    verb_row t (codes "answer") (λ p. events.Answer p.0 p.1) _ _ _ _ IsEvent event_fields ts x left _ (two_format l) h (λ a v. v) (λ a. refl)
    (λ h. verb_row t (codes "fail") (λ p. events.Fail p.0 p.1) _ _ _ _ IsEvent event_fields ts x left _ (two_format l) h (λ a v. v) (λ a. refl)
    (λ h. verb_row t (codes "carry") (λ p. events.Carry p.0.0 p.0.1 p.1) _ _ _ _ IsEvent event_fields ts x left _ (carry_format l) h (λ a v. (v.0.0, v.0.1, v.1)) (λ a. refl)
    (λ h. verb_row t (codes "cut") (λ p. cut_of p.0 p.1) _ _ _ _ IsEvent event_fields ts x left _ (sides_format l) h (λ a v. cut_good a.0 a.1 v) (λ a. cut_same a.0 a.1)
    (λ h. verb_row t (codes "end") (λ p. end_of p.0 p.1) _ _ _ _ IsEvent event_fields ts x left _ (sides_format l) h (λ a v. end_good a.0 a.1 v) (λ a. end_same a.0 a.1)
    (λ h. verb_row t (codes "pass") (λ n. events.Pass n) _ _ _ _ IsEvent event_fields ts x left _ (rounds_format l) h (λ a v. v) (λ a. refl)
    (λ h. absurd cc))))))

event_is : TextLaws → (t : List ℕ) (ts : List (List ℕ)) (x : Event) (left : List (List ℕ)) → event_named t ts ≡ Some (x, left) → IsEvent x × (t ∷ ts ≡ event_fields x ++ left)
event_is l t ts x left h =
    verb_row t (codes "start") (λ p. events.Start (record { address = p.0; uid = p.1 })) _ _ _ _ IsEvent event_fields ts x left _ (start_format l) h (λ a v. record { address = v.0; uid = v.1 }) (λ a. refl)
    (λ h. verb_row t (codes "stop") (λ n. events.Stop n) _ _ _ _ IsEvent event_fields ts x left _ (number_format l) h (λ a v. v) (λ a. refl)
    (λ h. verb_row t (codes "at") (λ p. events.At p.0 p.1) _ _ _ _ IsEvent event_fields ts x left _ (at_format l) h (λ a v. v) (λ a. refl)
    (λ h. verb_row t (codes "tick") (λ p. events.Tick p.0 p.1) _ _ _ _ IsEvent event_fields ts x left _ (tick_format l) h (λ a v. v) (λ a. refl)
    (connection_is l t ts x left))))

event_back : TextLaws → (x : Event) (left : List (List ℕ)) → IsEvent x → EventHasBytes x → by_word event_named (event_fields x ++ left) ≡ Some (x, left)
event_back l (events.Start unique) left v b = made_reads (λ p. events.Start (record { address = p.0; uid = p.1 })) _ _ _ _ (start_format l) (unique.address, unique.uid) left (v.address, v.uid) (tt, tt)
event_back l (events.Stop uid) left v b = made_reads (λ n. events.Stop n) _ _ _ _ (number_format l) uid left v tt
event_back l (events.At uid request) left v b = made_reads (λ p. events.At p.0 p.1) _ _ _ _ (at_format l) (uid, request) left v (tt, b)
event_back l (events.Tick uid moment) left v b = made_reads (λ p. events.Tick p.0 p.1) _ _ _ _ (tick_format l) (uid, moment) left v (tt, tt)
event_back l (events.Answer uid dial) left v b = made_reads (λ p. events.Answer p.0 p.1) _ _ _ _ (two_format l) (uid, dial) left v (tt, tt)
event_back l (events.Fail uid dial) left v b = made_reads (λ p. events.Fail p.0 p.1) _ _ _ _ (two_format l) (uid, dial) left v (tt, tt)
event_back l (events.Carry uid dial count) left v b = made_reads (λ p. events.Carry p.0.0 p.0.1 p.1) _ _ _ _ (carry_format l) ((uid, dial), count) left ((v.0, v.1), v.2) ((tt, tt), tt)
event_back l (events.Cut uid dial) left v b = made_reads (λ p. cut_of p.0 p.1) _ _ _ _ (sides_format l) (uid, Some dial) left v (tt, tt)
event_back l (events.End uid dial) left v b = made_reads (λ p. end_of p.0 p.1) _ _ _ _ (sides_format l) (uid, Some dial) left v (tt, tt)
event_back l (events.CutAll uid) left v b = made_reads (λ p. cut_of p.0 p.1) _ _ _ _ (sides_format l) (uid, None) left (v, tt) (tt, tt)
event_back l (events.EndAll uid) left v b = made_reads (λ p. end_of p.0 p.1) _ _ _ _ (sides_format l) (uid, None) left (v, tt) (tt, tt)
event_back l (events.Pass rounds) left v b = made_reads (λ n. events.Pass n) _ _ _ _ (rounds_format l) rounds left v tt

event_tokens : TextLaws → (x : Event) → IsEvent x → EventHasBytes x → NoSpaces (event_fields x)
event_tokens l (events.Start unique) v b = (refl, (start_format l).tokens (unique.address, unique.uid) (v.address, v.uid) (tt, tt))
event_tokens l (events.Stop uid) v b = (refl, (number_format l).tokens uid v tt)
event_tokens l (events.At uid request) v b = (refl, (at_format l).tokens (uid, request) v (tt, b))
event_tokens l (events.Tick uid moment) v b = (refl, (tick_format l).tokens (uid, moment) v (tt, tt))
event_tokens l (events.Answer uid dial) v b = (refl, (two_format l).tokens (uid, dial) v (tt, tt))
event_tokens l (events.Fail uid dial) v b = (refl, (two_format l).tokens (uid, dial) v (tt, tt))
event_tokens l (events.Carry uid dial count) v b = (refl, (carry_format l).tokens ((uid, dial), count) ((v.0, v.1), v.2) ((tt, tt), tt))
event_tokens l (events.Cut uid dial) v b = (refl, (sides_format l).tokens (uid, Some dial) v (tt, tt))
event_tokens l (events.End uid dial) v b = (refl, (sides_format l).tokens (uid, Some dial) v (tt, tt))
event_tokens l (events.CutAll uid) v b = (refl, (sides_format l).tokens (uid, None) (v, tt) (tt, tt))
event_tokens l (events.EndAll uid) v b = (refl, (sides_format l).tokens (uid, None) (v, tt) (tt, tt))
event_tokens l (events.Pass rounds) v b = (refl, (rounds_format l).tokens rounds v tt)

event_format : TextLaws → IsFormat (by_word event_named) event_fields IsEvent EventHasBytes
event_format l = record { spelled = by_word_is event_named event_fields IsEvent (event_is l); reads = event_back l; tokens = event_tokens l }

-- ---- lines

nil_is : {X : Type 0} (xs : List X) → eqb (length xs) 0 ≡ true → xs ≡ []
nil_is [] h = refl
nil_is (x ∷ xs) h =
    let none : length (x ∷ xs) ≡ 0 = eqb-true _ _ h in
    absurd (omega (arith, none))

-- a text with one token at least is the row of its tokens
row_of : (text : List ℕ) (ts fields : List (List ℕ)) → tokens_of text ≡ ts → ts ≡ fields → 0 < length fields → text ≡ row fields
row_of text ts [] h e some = absurd (omega (arith, some))
row_of text ts (first ∷ fields) h e some = uncut text first fields (h ∙ e)

-- a line that is read is the row of the fields of what it tells
pub line_is : {X : Type 0} (read : List (List ℕ) → Option (X × List (List ℕ))) (fields : X → List (List ℕ)) (Valid HasBytes : X → Type 0) → IsFormat read fields Valid HasBytes
    → ((x : X) → 0 < length (fields x))
    → (text : List ℕ) (x : X) → (read (tokens_of text) >>= ended) ≡ Some x → Valid x × (text ≡ row (fields x))
line_is {X} read fields Valid HasBytes f some text x h =
    let s = steps (read (tokens_of text)) ended x h in
    let r = f.spelled (tokens_of text) s.value.0 s.value.1 s.first in
    let e = cond_some (eqb (length s.value.1) 0) (Some s.value.0) x s.then_ in
    let none : s.value.1 ≡ [] = nil_is s.value.1 e.0 in
    let cut : tokens_of text ≡ fields s.value.0 = r.1 ∙ ap (λ us. fields s.value.0 ++ us) none ∙ append-nil (fields s.value.0) in
    subst (λ (x : X). Valid x × (text ≡ row (fields x))) (some_is s.value.0 x e.1)
    (r.0, row_of text (tokens_of text) (fields s.value.0) refl cut (some s.value.0))

-- a row is cut again into its fields
row_cut : (fields : List (List ℕ)) → NoSpaces fields → 0 < length fields → tokens_of (row fields) ≡ fields
row_cut [] n some = absurd (omega (arith, some))
row_cut (first ∷ fields) n some = cut_again first fields n.0 n.1

-- a line that is spelled is read so
pub line_back : {X : Type 0} (read : List (List ℕ) → Option (X × List (List ℕ))) (fields : X → List (List ℕ)) (Valid HasBytes : X → Type 0) → IsFormat read fields Valid HasBytes
    → ((x : X) → 0 < length (fields x))
    → (x : X) → Valid x → HasBytes x → (read (tokens_of (row (fields x))) >>= ended) ≡ Some x
line_back read fields Valid HasBytes f some x v b =
    ap (λ ts. read ts >>= ended) (row_cut (fields x) (f.tokens x v b) (some x) ∙ sym (append-nil (fields x)))
    ∙ ap (λ o. o >>= ended) (f.reads x [] v b)

request_some : (x : Request) → 0 < length (request_fields x)
request_some (requests.Pair address) = omega arith
request_some (requests.Send address message) = omega arith
request_some (requests.Tell address message) = omega arith
request_some (requests.Watch path watchee) = omega arith
request_some (requests.Unwatch path watchee) = omega arith
request_some (requests.Spawn path) = omega arith
request_some (requests.Kill path) = omega arith
request_some (requests.Quarantine address) = omega arith

asked_some : (x : Asked) → 0 < length (asked_fields x)
asked_some (true, r) = omega arith
asked_some (false, r) = request_some r

event_some : (x : Event) → 0 < length (event_fields x)
event_some (events.Start unique) = omega arith
event_some (events.Stop uid) = omega arith
event_some (events.At uid request) = omega arith
event_some (events.Tick uid moment) = omega arith
event_some (events.Answer uid dial) = omega arith
event_some (events.Fail uid dial) = omega arith
event_some (events.Carry uid dial count) = omega arith
event_some (events.Cut uid dial) = omega arith
event_some (events.End uid dial) = omega arith
event_some (events.CutAll uid) = omega arith
event_some (events.EndAll uid) = omega arith
event_some (events.Pass rounds) = omega arith

-- a line that tells an event is the event's text
pub event_of_is : TextLaws → (text : List ℕ) (x : Event) → event_of text ≡ Some x → IsEvent x × (text ≡ event_text x)
event_of_is l text x h = line_is (by_word event_named) event_fields IsEvent EventHasBytes (event_format l) event_some text x h

-- the text of an event tells it
pub event_of_back : TextLaws → (x : Event) → IsEvent x → EventHasBytes x → event_of (event_text x) ≡ Some x
event_of_back l x v b = line_back (by_word event_named) event_fields IsEvent EventHasBytes (event_format l) event_some x v b

-- a line that tells a request of a node is the request's text
pub asked_of_is : TextLaws → (text : List ℕ) (x : Asked) → asked_of text ≡ Some x → IsAsked x × (text ≡ asked_text x)
asked_of_is l text x h = line_is (by_word asked_named) asked_fields IsAsked (λ x. RequestHasBytes x.1) (asked_format l) asked_some text x h

-- the text of a request of a node tells it
pub asked_of_back : TextLaws → (x : Asked) → IsAsked x → RequestHasBytes x.1 → asked_of (asked_text x) ≡ Some x
asked_of_back l x v b = line_back (by_word asked_named) asked_fields IsAsked (λ x. RequestHasBytes x.1) (asked_format l) asked_some x v b
