-- The fields of lines are read exactly, and so are lines.
use Rattle.std.proofs.Common.{◌≡◌, ℕ, ◌<◌, List, [], ◌∷◌, ◌++◌, length, Option, Some, None, refl, sym, ap, ◌∙◌, append_assoc, subst, arith}
use Rattle.std.specs.Prelude.{ℤ, FitsSigned, IsAscii, IsTrue, codes, decimal}
use Rattle.std.specs.Fmt.{signed_decimal}
use Rattle.std.specs.Int.{w32}
use Rattle.artery_base.specs.declared.address.UniqueAddress.{UniqueAddress}
use Rattle.artery_base.specs.declared.message.SysMsg.{SysMsg}
use Rattle.artery_base.specs.declared.message.Tell.{Tell}
use Rattle.artery_base.specs.Valid.{AreBytes, IsUniqueAddress}
use Rattle.artery_text.specs.Spelling.{word_text, hex_text}
use Rattle.artery_text.specs.Reading.{number_of, int32_of}
use Rattle.artery_lines.specs.Lines.{◌>>=◌, tokens_of}
use Rattle.artery_script.specs.Texts.{spaced as spaced_out, row}
use Rattle.artery_script.specs.Reading.{field, both, made, ended, by_word, word_told, hex_told, moment_told, actor_path_told, actor_told}
use Rattle.artery_script.specs.Valid.{IsMoment}
use Rattle.artery_script.proofs.Formats.{NoSpace, NoSpaces, IsFormat, Always, field_format, both_format, made_reads, made_spelled, verb_row, some_is, steps}
use Rattle.artery_script.proofs.FieldLaws.{TextLaws, int32_field, word_field, hex_field, moment_field, actor_path_field}
use Rattle.artery_script.proofs.LineLaws.{by_word_is, line_is, line_back}
use Rattle.artery_journal.specs.declared.words.Kind.{Kind}
use Rattle.artery_journal.specs.declared.words.Cause.{Cause}
use Rattle.artery_journal.specs.declared.line.Line.{Line}
use Rattle.artery_journal.specs.declared.line.Line.TheVariants as lines
use Rattle.artery_journal.specs.declared.stamped.Stamped.{Stamped}
use Rattle.artery_journal.specs.Texts.{who, cause_text, kind_text, reason_text, nonce_text, message_fields, tell_fields, rule_fields, author, deed, spaced, line_text, stamped_text}
use Rattle.artery_journal.specs.Valid.{IsNumber, IsNonce, IsRule, IsMessage, IsTell, is_actor_path, IsRef, IsDeed, IsLine, IsStamped, MessageHasBytes, HasBytes}
use Rattle.artery_journal_reading.specs.Reading.{unique_told, name_told, nonce_told, kind_told, cause_told, reason_told, two_numbers, rule_in, message_in, names_in, content_in, tell_in, other_number, other_nonce, other_table, table_named, message_named, other_more_named, other_named, actor_named, line_named, deed_in, line_in, line_of, moment_line, stamped_in, stamped_of}
use Rattle.artery_journal_reading.proofs.WordLaws.{PartLaws, unique_field, name_field, ref_field, nonce_field, kind_field, cause_field, reason_field}
use Rattle.artery_journal_reading.proofs.RuleLaws.{alone_row, number_format, two_format, rule_format}

-- ---- single fields

unique_format : PartLaws → IsFormat (field unique_told) (λ u. who u ∷ []) IsUniqueAddress Always
unique_format l = field_format unique_told who IsUniqueAddress Always (unique_field l)

nonce_format : TextLaws → IsFormat (field nonce_told) (λ n. nonce_text n ∷ []) IsNonce Always
nonce_format l = field_format nonce_told nonce_text IsNonce Always (nonce_field l)

kind_format : IsFormat (field kind_told) (λ k. kind_text k ∷ []) Always Always
kind_format = field_format kind_told kind_text Always Always kind_field

cause_format : IsFormat (field cause_told) (λ c. cause_text c ∷ []) Always Always
cause_format = field_format cause_told cause_text Always Always cause_field

reason_format : IsFormat (field reason_told) (λ r. reason_text r ∷ []) Always Always
reason_format = field_format reason_told reason_text Always Always reason_field

path_format : IsFormat (field actor_path_told) (λ p. p ∷ []) (λ p. IsTrue (is_actor_path p)) Always
path_format = field_format actor_path_told (λ p. p) (λ p. IsTrue (is_actor_path p)) Always actor_path_field

ref_format : TextLaws → IsFormat (field actor_told) (λ x. x ∷ []) IsRef Always
ref_format l = field_format actor_told (λ x. x) IsRef Always (ref_field l)

moment_format : TextLaws → IsFormat (field moment_told) (λ n. decimal n ∷ []) IsMoment Always
moment_format l = field_format moment_told decimal IsMoment Always (moment_field l)

int32_format : TextLaws → IsFormat (field int32_of) (λ z. signed_decimal z ∷ []) (λ z. FitsSigned w32 z) Always
int32_format l = field_format int32_of signed_decimal (λ z. FitsSigned w32 z) Always (int32_field l)

word_format : TextLaws → IsFormat (field word_told) (λ x. word_text x ∷ []) Always AreBytes
word_format l = field_format word_told word_text Always AreBytes (word_field l)

hex_format : TextLaws → IsFormat (field hex_told) (λ x. hex_text x ∷ []) Always AreBytes
hex_format l = field_format hex_told hex_text Always AreBytes (hex_field l)

name_format : TextLaws → IsFormat (field name_told) (λ x. word_text x ∷ []) (λ x. IsAscii x) Always
name_format l = field_format name_told word_text (λ x. IsAscii x) Always (name_field l)

-- ---- messages

abbrev message_made : ℤ × (List ℕ × List ℕ) → SysMsg
message_made p = record { serializer = p.0; manifest = p.1.0; payload = p.1.1 }

message_parts : TextLaws → IsFormat (both (field int32_of) (both (field word_told) (field hex_told))) (λ p. signed_decimal p.0 ∷ word_text p.1.0 ∷ hex_text p.1.1 ∷ [])
    (λ p. FitsSigned w32 p.0 × (Always p.1.0 × Always p.1.1)) (λ p. Always p.0 × (AreBytes p.1.0 × AreBytes p.1.1))
message_parts l = both_format _ _ _ _ _ _ _ _ (int32_format l) (both_format _ _ _ _ _ _ _ _ (word_format l) (hex_format l))

message_format : TextLaws → IsFormat message_in message_fields IsMessage MessageHasBytes
unfolding message_in
message_format l = record {
  spelled = λ ts m left h. made_spelled message_made _ _ _ _ IsMessage message_fields (message_parts l) (λ a v. v.0) (λ a. refl) ts m left h;
  reads = λ m left v b. made_reads message_made _ _ _ _ (message_parts l) (m.serializer, (m.manifest, m.payload)) left (v, (tt, tt)) (tt, (b.manifest, b.payload));
  tokens = λ m v b. (message_parts l).tokens (m.serializer, (m.manifest, m.payload)) (v, (tt, tt)) (tt, (b.manifest, b.payload));
}

names_format : TextLaws → IsFormat names_in (λ p. word_text p.0 ∷ word_text p.1 ∷ []) (λ p. IsAscii p.0 × IsAscii p.1) (λ p. Always p.0 × Always p.1)
unfolding names_in
names_format l = both_format _ _ _ _ _ _ _ _ (name_format l) (name_format l)

content_format : TextLaws → IsFormat content_in (λ p. signed_decimal p.0 ∷ word_text p.1.0 ∷ hex_text p.1.1 ∷ [])
    (λ p. FitsSigned w32 p.0 × (IsAscii p.1.0 × Always p.1.1)) (λ p. Always p.0 × (Always p.1.0 × AreBytes p.1.1))
unfolding content_in
content_format l = both_format _ _ _ _ _ _ _ _ (int32_format l) (both_format _ _ _ _ _ _ _ _ (name_format l) (hex_format l))

abbrev tell_made : (List ℕ × List ℕ) × (ℤ × (List ℕ × List ℕ)) → Tell
tell_made p = record { sender = p.0.0; recipient = p.0.1; serializer = p.1.0; manifest = p.1.1.0; payload = p.1.1.1 }

tell_parts : TextLaws → IsFormat (both names_in content_in) (λ p. word_text p.0.0 ∷ word_text p.0.1 ∷ signed_decimal p.1.0 ∷ word_text p.1.1.0 ∷ hex_text p.1.1.1 ∷ [])
    (λ p. (IsAscii p.0.0 × IsAscii p.0.1) × (FitsSigned w32 p.1.0 × (IsAscii p.1.1.0 × Always p.1.1.1))) (λ p. (Always p.0.0 × Always p.0.1) × (Always p.1.0 × (Always p.1.1.0 × AreBytes p.1.1.1)))
tell_parts l = both_format _ _ _ _ _ _ _ _ (names_format l) (content_format l)

tell_format : TextLaws → IsFormat tell_in tell_fields IsTell (λ m. AreBytes m.payload)
unfolding tell_in
tell_format l = record {
  spelled = λ ts m left h. made_spelled tell_made _ _ _ _ IsTell tell_fields (tell_parts l) (λ a v. record { sender = v.0.0; recipient = v.0.1; serializer = v.1.0; manifest = v.1.1.0 }) (λ a. refl) ts m left h;
  reads = λ m left v b. made_reads tell_made _ _ _ _ (tell_parts l) ((m.sender, m.recipient), (m.serializer, (m.manifest, m.payload))) left ((v.sender, v.recipient), (v.serializer, (v.manifest, tt))) ((tt, tt), (tt, (tt, b)));
  tokens = λ m v b. (tell_parts l).tokens ((m.sender, m.recipient), (m.serializer, (m.manifest, m.payload))) ((v.sender, v.recipient), (v.serializer, (v.manifest, tt))) ((tt, tt), (tt, (tt, b)));
}

-- ---- what stands behind a word

number_of_other : PartLaws → IsFormat other_number (λ p. who p.0 ∷ decimal p.1 ∷ []) (λ p. IsUniqueAddress p.0 × IsNumber p.1) (λ p. Always p.0 × Always p.1)
unfolding other_number
number_of_other l = both_format _ _ _ _ _ _ _ _ (unique_format l) (number_format l.texts)

nonce_of_other : PartLaws → IsFormat other_nonce (λ p. who p.0 ∷ nonce_text p.1 ∷ []) (λ p. IsUniqueAddress p.0 × IsNonce p.1) (λ p. Always p.0 × Always p.1)
unfolding other_nonce
nonce_of_other l = both_format _ _ _ _ _ _ _ _ (unique_format l) (nonce_format l.texts)

table_of_other : PartLaws → IsFormat other_table (λ p. who p.0 ∷ kind_text p.1.0 ∷ decimal p.1.1 ∷ []) (λ p. IsUniqueAddress p.0 × (Always p.1.0 × IsNumber p.1.1)) (λ p. Always p.0 × (Always p.1.0 × Always p.1.1))
unfolding other_table
table_of_other l = both_format _ _ _ _ _ _ _ _ (unique_format l) (both_format _ _ _ _ _ _ _ _ kind_format (number_format l.texts))

advertised_format : PartLaws → IsFormat (both other_table (field number_of)) (λ p. who p.0.0 ∷ kind_text p.0.1.0 ∷ decimal p.0.1.1 ∷ decimal p.1 ∷ [])
    (λ p. (IsUniqueAddress p.0.0 × (Always p.0.1.0 × IsNumber p.0.1.1)) × IsNumber p.1) (λ p. (Always p.0.0 × (Always p.0.1.0 × Always p.0.1.1)) × Always p.1)
advertised_format l = both_format _ _ _ _ _ _ _ _ (table_of_other l) (number_format l.texts)

skipped_format : TextLaws → IsFormat (both two_numbers two_numbers) (λ p. decimal p.0.0 ∷ decimal p.0.1 ∷ decimal p.1.0 ∷ decimal p.1.1 ∷ [])
    (λ p. (IsNumber p.0.0 × IsNumber p.0.1) × (IsNumber p.1.0 × IsNumber p.1.1)) (λ p. (Always p.0.0 × Always p.0.1) × (Always p.1.0 × Always p.1.1))
skipped_format l = both_format _ _ _ _ _ _ _ _ (two_format l) (two_format l)

dropped_format : TextLaws → IsFormat (both (field number_of) rule_in) (λ p. decimal p.0 ∷ rule_fields p.1) (λ p. IsNumber p.0 × IsRule p.1) (λ p. Always p.0 × Always p.1)
dropped_format l = both_format _ _ _ _ _ _ _ _ (number_format l) (rule_format l)

sent_format : PartLaws → IsFormat (both other_number message_in) (λ p. who p.0.0 ∷ decimal p.0.1 ∷ message_fields p.1) (λ p. (IsUniqueAddress p.0.0 × IsNumber p.0.1) × IsMessage p.1) (λ p. (Always p.0.0 × Always p.0.1) × MessageHasBytes p.1)
sent_format l = both_format _ _ _ _ _ _ _ _ (number_of_other l) (message_format l.texts)

told_format : PartLaws → IsFormat (both other_number tell_in) (λ p. who p.0.0 ∷ decimal p.0.1 ∷ tell_fields p.1) (λ p. (IsUniqueAddress p.0.0 × IsNumber p.0.1) × IsTell p.1) (λ p. (Always p.0.0 × Always p.0.1) × AreBytes p.1.payload)
told_format l = both_format _ _ _ _ _ _ _ _ (number_of_other l) (tell_format l.texts)

got_format : PartLaws → IsFormat (both other_nonce tell_in) (λ p. who p.0.0 ∷ nonce_text p.0.1 ∷ tell_fields p.1) (λ p. (IsUniqueAddress p.0.0 × IsNonce p.0.1) × IsTell p.1) (λ p. (Always p.0.0 × Always p.0.1) × AreBytes p.1.payload)
got_format l = both_format _ _ _ _ _ _ _ _ (nonce_of_other l) (tell_format l.texts)

closed_format : PartLaws → IsFormat (both (field unique_told) (field cause_told)) (λ p. who p.0 ∷ cause_text p.1 ∷ []) (λ p. IsUniqueAddress p.0 × Always p.1) (λ p. Always p.0 × Always p.1)
closed_format l = both_format _ _ _ _ _ _ _ _ (unique_format l) cause_format

watched_format : TextLaws → IsFormat (both (field number_of) (both (field actor_told) (field actor_told))) (λ p. decimal p.0 ∷ p.1.0 ∷ p.1.1 ∷ []) (λ p. IsNumber p.0 × (IsRef p.1.0 × IsRef p.1.1)) (λ p. Always p.0 × (Always p.1.0 × Always p.1.1))
watched_format l = both_format _ _ _ _ _ _ _ _ (number_format l) (both_format _ _ _ _ _ _ _ _ (ref_format l) (ref_format l))

-- ---- what an incarnation did

-- a line of this incarnation whose deed has a text
abbrev IsOf : UniqueAddress → Line → Type 0
IsOf of x = (author x ≡ of) × IsDeed x

table_is : PartLaws → (of : UniqueAddress) (t : List ℕ) (ts : List (List ℕ)) (x : Line) (left : List (List ℕ)) → table_named of t ts ≡ Some (x, left) → IsOf of x × (t ∷ ts ≡ deed x ++ left)
unfolding table_named
table_is l of t ts x left h =
    verb_row t (codes "advertised") (λ p. lines.Advertised of p.0.0 p.0.1.0 p.0.1.1 p.1) _ _ _ _ (IsOf of) deed ts x left _ (advertised_format l) h (λ a v. (refl, (v.0.0, v.0.1.1, v.1))) (λ a. refl)
    (λ h. verb_row t (codes "adopted") (λ p. lines.Adopted of p.0 p.1.0 p.1.1) _ _ _ _ (IsOf of) deed ts x left _ (table_of_other l) h (λ a v. (refl, (v.0, v.1.1))) (λ a. refl)
    (λ h. verb_row t (codes "skipped") (λ p. lines.Skipped of p.0.0 p.0.1 p.1.0 p.1.1) _ _ _ _ (IsOf of) deed ts x left _ (skipped_format l.texts) h (λ a v. (refl, (v.0.0, v.0.1, v.1.0, v.1.1))) (λ a. refl)
    (λ h. verb_row t (codes "dropped") (λ p. lines.Dropped of p.0 p.1) _ _ _ _ (IsOf of) deed ts x left _ (dropped_format l.texts) h (λ a v. (refl, v)) (λ a. refl)
    (λ h. absurd cc))))

message_is : PartLaws → (of : UniqueAddress) (t : List ℕ) (ts : List (List ℕ)) (x : Line) (left : List (List ℕ)) → message_named of t ts ≡ Some (x, left) → IsOf of x × (t ∷ ts ≡ deed x ++ left)
unfolding message_named
message_is l of t ts x left h =
    verb_row t (codes "sent") (λ p. lines.Sent of p.0.0 p.0.1 p.1) _ _ _ _ (IsOf of) deed ts x left _ (sent_format l) h (λ a v. (refl, (v.0.0, v.0.1, v.1))) (λ a. refl)
    (λ h. verb_row t (codes "took") (λ p. lines.Took of p.0.0 p.0.1 p.1) _ _ _ _ (IsOf of) deed ts x left _ (sent_format l) h (λ a v. (refl, (v.0.0, v.0.1, v.1))) (λ a. refl)
    (λ h. verb_row t (codes "told") (λ p. lines.Told of p.0.0 p.0.1 p.1) _ _ _ _ (IsOf of) deed ts x left _ (told_format l) h (λ a v. (refl, (v.0.0, v.0.1, v.1))) (λ a. refl)
    (λ h. verb_row t (codes "got") (λ p. lines.Got of p.0.0 p.0.1 p.1) _ _ _ _ (IsOf of) deed ts x left _ (got_format l) h (λ a v. (refl, (v.0.0, v.0.1, v.1))) (λ a. refl)
    (table_is l of t ts x left))))

other_more_is : PartLaws → (of : UniqueAddress) (t : List ℕ) (ts : List (List ℕ)) (x : Line) (left : List (List ℕ)) → other_more_named of t ts ≡ Some (x, left) → IsOf of x × (t ∷ ts ≡ deed x ++ left)
unfolding other_more_named
other_more_is l of t ts x left h =
    verb_row t (codes "again") (λ p. lines.Again of p.0 p.1) _ _ _ _ (IsOf of) deed ts x left _ (number_of_other l) h (λ a v. (refl, v)) (λ a. refl)
    (λ h. verb_row t (codes "gap") (λ p. lines.Gap of p.0 p.1) _ _ _ _ (IsOf of) deed ts x left _ (number_of_other l) h (λ a v. (refl, v)) (λ a. refl)
    (λ h. verb_row t (codes "stray") (λ p. lines.Stray of p.0 p.1) _ _ _ _ (IsOf of) deed ts x left _ (nonce_of_other l) h (λ a v. (refl, v)) (λ a. refl)
    (λ h. verb_row t (codes "closed") (λ p. lines.Closed of p.0 p.1) _ _ _ _ (IsOf of) deed ts x left _ (closed_format l) h (λ a v. (refl, v.0)) (λ a. refl)
    (message_is l of t ts x left))))

other_is : PartLaws → (of : UniqueAddress) (t : List ℕ) (ts : List (List ℕ)) (x : Line) (left : List (List ℕ)) → other_named of t ts ≡ Some (x, left) → IsOf of x × (t ∷ ts ≡ deed x ++ left)
unfolding other_named
other_is l of t ts x left h =
    verb_row t (codes "learnt") (λ p. lines.Learnt of p) _ _ _ _ (IsOf of) deed ts x left _ (unique_format l) h (λ a v. (refl, v)) (λ a. refl)
    (λ h. verb_row t (codes "barred") (λ p. lines.Barred of p) _ _ _ _ (IsOf of) deed ts x left _ (unique_format l) h (λ a v. (refl, v)) (λ a. refl)
    (λ h. verb_row t (codes "notice") (λ p. lines.Notice of p) _ _ _ _ (IsOf of) deed ts x left _ (unique_format l) h (λ a v. (refl, v)) (λ a. refl)
    (λ h. verb_row t (codes "idle") (λ p. lines.Idle of p) _ _ _ _ (IsOf of) deed ts x left _ (unique_format l) h (λ a v. (refl, v)) (λ a. refl)
    (other_more_is l of t ts x left))))

actor_is : PartLaws → (of : UniqueAddress) (t : List ℕ) (ts : List (List ℕ)) (x : Line) (left : List (List ℕ)) → actor_named of t ts ≡ Some (x, left) → IsOf of x × (t ∷ ts ≡ deed x ++ left)
unfolding actor_named
actor_is l of t ts x left h =
    verb_row t (codes "watched") (λ p. lines.Watched of p.0 p.1.0 p.1.1) _ _ _ _ (IsOf of) deed ts x left _ (watched_format l.texts) h (λ a v. (refl, (v.0, v.1.0, v.1.1))) (λ a. refl)
    (λ h. verb_row t (codes "refused") (λ p. lines.Refused of p) _ _ _ _ (IsOf of) deed ts x left _ (reason_format) h (λ a v. (refl, tt)) (λ a. refl)
    (λ h. verb_row t (codes "spawned") (λ p. lines.Spawned of p) _ _ _ _ (IsOf of) deed ts x left _ (path_format) h (λ a v. (refl, v)) (λ a. refl)
    (λ h. verb_row t (codes "ended") (λ p. lines.Ended of p) _ _ _ _ (IsOf of) deed ts x left _ (path_format) h (λ a v. (refl, v)) (λ a. refl)
    (other_is l of t ts x left))))

line_is_of : PartLaws → (of : UniqueAddress) (t : List ℕ) (ts : List (List ℕ)) (x : Line) (left : List (List ℕ)) → line_named of t ts ≡ Some (x, left) → IsOf of x × (t ∷ ts ≡ deed x ++ left)
unfolding line_named
line_is_of l of t ts x left h =
    alone_row t (codes "started") (lines.Started of) (IsOf of) deed ts x left _ h (refl, tt) refl
    (λ h. alone_row t (codes "stopped") (lines.Stopped of) (IsOf of) deed ts x left _ h (refl, tt) refl
    (λ h. verb_row t (codes "unwatched") (λ p. lines.Unwatched of p) _ _ _ _ (IsOf of) deed ts x left _ (number_format l.texts) h (λ a v. (refl, v)) (λ a. refl)
    (λ h. verb_row t (codes "terminated") (λ p. lines.Terminated of p) _ _ _ _ (IsOf of) deed ts x left _ (number_format l.texts) h (λ a v. (refl, v)) (λ a. refl)
    (actor_is l of t ts x left))))

deed_back : PartLaws → (x : Line) (left : List (List ℕ)) → IsDeed x → HasBytes x → deed_in (author x) (deed x ++ left) ≡ Some (x, left)
unfolding table_named message_named other_more_named other_named actor_named line_named
deed_back l (lines.Started of) left v b = refl
deed_back l (lines.Stopped of) left v b = refl
deed_back l (lines.Unwatched of id) left v b = made_reads (λ p. lines.Unwatched of p) _ _ _ _ (number_format l.texts) id left v tt
deed_back l (lines.Terminated of id) left v b = made_reads (λ p. lines.Terminated of p) _ _ _ _ (number_format l.texts) id left v tt
deed_back l (lines.Watched of id watcher watchee) left v b = made_reads (λ p. lines.Watched of p.0 p.1.0 p.1.1) _ _ _ _ (watched_format l.texts) (id, (watcher, watchee)) left (v.0, (v.1, v.2)) (tt, (tt, tt))
deed_back l (lines.Refused of reason) left v b = made_reads (λ p. lines.Refused of p) _ _ _ _ (reason_format) reason left tt tt
deed_back l (lines.Spawned of path) left v b = made_reads (λ p. lines.Spawned of p) _ _ _ _ (path_format) path left v tt
deed_back l (lines.Ended of path) left v b = made_reads (λ p. lines.Ended of p) _ _ _ _ (path_format) path left v tt
deed_back l (lines.Learnt of other) left v b = made_reads (λ p. lines.Learnt of p) _ _ _ _ (unique_format l) other left v tt
deed_back l (lines.Barred of other) left v b = made_reads (λ p. lines.Barred of p) _ _ _ _ (unique_format l) other left v tt
deed_back l (lines.Notice of other) left v b = made_reads (λ p. lines.Notice of p) _ _ _ _ (unique_format l) other left v tt
deed_back l (lines.Idle of other) left v b = made_reads (λ p. lines.Idle of p) _ _ _ _ (unique_format l) other left v tt
deed_back l (lines.Again of other n) left v b = made_reads (λ p. lines.Again of p.0 p.1) _ _ _ _ (number_of_other l) (other, n) left v (tt, tt)
deed_back l (lines.Gap of other n) left v b = made_reads (λ p. lines.Gap of p.0 p.1) _ _ _ _ (number_of_other l) (other, n) left v (tt, tt)
deed_back l (lines.Stray of other its_nonce) left v b = made_reads (λ p. lines.Stray of p.0 p.1) _ _ _ _ (nonce_of_other l) (other, its_nonce) left v (tt, tt)
deed_back l (lines.Closed of other cause) left v b = made_reads (λ p. lines.Closed of p.0 p.1) _ _ _ _ (closed_format l) (other, cause) left (v, tt) (tt, tt)
deed_back l (lines.Sent of other n message) left v b = made_reads (λ p. lines.Sent of p.0.0 p.0.1 p.1) _ _ _ _ (sent_format l) ((other, n), message) left ((v.0, v.1), v.2) ((tt, tt), b)
deed_back l (lines.Took of other n message) left v b = made_reads (λ p. lines.Took of p.0.0 p.0.1 p.1) _ _ _ _ (sent_format l) ((other, n), message) left ((v.0, v.1), v.2) ((tt, tt), b)
deed_back l (lines.Told of other dial message) left v b = made_reads (λ p. lines.Told of p.0.0 p.0.1 p.1) _ _ _ _ (told_format l) ((other, dial), message) left ((v.0, v.1), v.2) ((tt, tt), b)
deed_back l (lines.Got of other its_nonce message) left v b = made_reads (λ p. lines.Got of p.0.0 p.0.1 p.1) _ _ _ _ (got_format l) ((other, its_nonce), message) left ((v.0, v.1), v.2) ((tt, tt), b)
deed_back l (lines.Advertised of other kind version count) left v b = made_reads (λ p. lines.Advertised of p.0.0 p.0.1.0 p.0.1.1 p.1) _ _ _ _ (advertised_format l) ((other, (kind, version)), count) left ((v.0, (tt, v.1)), v.2) ((tt, (tt, tt)), tt)
deed_back l (lines.Adopted of other kind version) left v b = made_reads (λ p. lines.Adopted of p.0 p.1.0 p.1.1) _ _ _ _ (table_of_other l) (other, (kind, version)) left (v.0, (tt, v.1)) (tt, (tt, tt))
deed_back l (lines.Skipped of sender k seen now) left v b = made_reads (λ p. lines.Skipped of p.0.0 p.0.1 p.1.0 p.1.1) _ _ _ _ (skipped_format l.texts) ((sender, k), (seen, now)) left ((v.0, v.1), (v.2, v.3)) ((tt, tt), (tt, tt))
deed_back l (lines.Dropped of conn rule) left v b = made_reads (λ p. lines.Dropped of p.0 p.1) _ _ _ _ (dropped_format l.texts) (conn, rule) left v (tt, tt)

deed_tokens : PartLaws → (x : Line) → IsDeed x → HasBytes x → NoSpaces (deed x)
deed_tokens l (lines.Started of) v b = (refl, tt)
deed_tokens l (lines.Stopped of) v b = (refl, tt)
deed_tokens l (lines.Unwatched of id) v b = (refl, (number_format l.texts).tokens id v tt)
deed_tokens l (lines.Terminated of id) v b = (refl, (number_format l.texts).tokens id v tt)
deed_tokens l (lines.Watched of id watcher watchee) v b = (refl, (watched_format l.texts).tokens (id, (watcher, watchee)) (v.0, (v.1, v.2)) (tt, (tt, tt)))
deed_tokens l (lines.Refused of reason) v b = (refl, (reason_format).tokens reason tt tt)
deed_tokens l (lines.Spawned of path) v b = (refl, (path_format).tokens path v tt)
deed_tokens l (lines.Ended of path) v b = (refl, (path_format).tokens path v tt)
deed_tokens l (lines.Learnt of other) v b = (refl, (unique_format l).tokens other v tt)
deed_tokens l (lines.Barred of other) v b = (refl, (unique_format l).tokens other v tt)
deed_tokens l (lines.Notice of other) v b = (refl, (unique_format l).tokens other v tt)
deed_tokens l (lines.Idle of other) v b = (refl, (unique_format l).tokens other v tt)
deed_tokens l (lines.Again of other n) v b = (refl, (number_of_other l).tokens (other, n) v (tt, tt))
deed_tokens l (lines.Gap of other n) v b = (refl, (number_of_other l).tokens (other, n) v (tt, tt))
deed_tokens l (lines.Stray of other its_nonce) v b = (refl, (nonce_of_other l).tokens (other, its_nonce) v (tt, tt))
deed_tokens l (lines.Closed of other cause) v b = (refl, (closed_format l).tokens (other, cause) (v, tt) (tt, tt))
deed_tokens l (lines.Sent of other n message) v b = (refl, (sent_format l).tokens ((other, n), message) ((v.0, v.1), v.2) ((tt, tt), b))
deed_tokens l (lines.Took of other n message) v b = (refl, (sent_format l).tokens ((other, n), message) ((v.0, v.1), v.2) ((tt, tt), b))
deed_tokens l (lines.Told of other dial message) v b = (refl, (told_format l).tokens ((other, dial), message) ((v.0, v.1), v.2) ((tt, tt), b))
deed_tokens l (lines.Got of other its_nonce message) v b = (refl, (got_format l).tokens ((other, its_nonce), message) ((v.0, v.1), v.2) ((tt, tt), b))
deed_tokens l (lines.Advertised of other kind version count) v b = (refl, (advertised_format l).tokens ((other, (kind, version)), count) ((v.0, (tt, v.1)), v.2) ((tt, (tt, tt)), tt))
deed_tokens l (lines.Adopted of other kind version) v b = (refl, (table_of_other l).tokens (other, (kind, version)) (v.0, (tt, v.1)) (tt, (tt, tt)))
deed_tokens l (lines.Skipped of sender k seen now) v b = (refl, (skipped_format l.texts).tokens ((sender, k), (seen, now)) ((v.0, v.1), (v.2, v.3)) ((tt, tt), (tt, tt)))
deed_tokens l (lines.Dropped of conn rule) v b = (refl, (dropped_format l.texts).tokens (conn, rule) v (tt, tt))

-- ---- lines

-- the fields of a line
abbrev line_fields : Line → List (List ℕ)
line_fields x = who (author x) ∷ deed x

deed_is : PartLaws → (of : UniqueAddress) (ts : List (List ℕ)) (x : Line) (left : List (List ℕ)) → deed_in of ts ≡ Some (x, left) → IsOf of x × (ts ≡ deed x ++ left)
deed_is l of ts x left h = by_word_is (line_named of) deed (IsOf of) (line_is_of l of) ts x left h

spelled_line : PartLaws → (ts : List (List ℕ)) (x : Line) (left : List (List ℕ)) → line_in ts ≡ Some (x, left) → IsLine x × (ts ≡ line_fields x ++ left)
spelled_line l ts x left h =
    let u = steps (field unique_told ts) (λ u. deed_in u.0 u.1) (x, left) h in
    let w = (unique_format l).spelled ts u.value.0 u.value.1 u.first in
    let d = deed_is l u.value.0 u.value.1 x left u.then_ in (
      record { author = subst IsUniqueAddress (sym d.0.0) w.0; deed = d.0.1 },
      w.1 ∙ ap (λ us. who u.value.0 ∷ us) d.1 ∙ ap (λ of. who of ∷ (deed x ++ left)) (sym d.0.0),
    )

read_line : PartLaws → (x : Line) (left : List (List ℕ)) → IsLine x → HasBytes x → line_in (line_fields x ++ left) ≡ Some (x, left)
read_line l x left v b =
    ap (λ o. o >>= λ u. deed_in u.0 u.1) ((unique_format l).reads (author x) (deed x ++ left) v.author tt) ∙ deed_back l x left v.deed b

line_format : PartLaws → IsFormat line_in line_fields IsLine HasBytes
line_format l = record {
  spelled = spelled_line l;
  reads = read_line l;
  tokens = λ x v b. (((unique_format l).tokens (author x) v.author tt).0, deed_tokens l x v.deed b);
}

same_spaced : (fields : List (List ℕ)) → spaced_out fields ≡ spaced fields
same_spaced [] = refl
same_spaced (field ∷ fields) = ap (λ text. 32 ∷ (field ++ text)) (same_spaced fields)

line_row : (x : Line) → row (line_fields x) ≡ line_text x
line_row x = ap (λ text. who (author x) ++ text) (same_spaced (deed x))

line_some : (x : Line) → 0 < length (line_fields x)
line_some x = omega arith

-- a text that tells a line is the line's text
pub line_of_is : PartLaws → (text : List ℕ) (x : Line) → line_of text ≡ Some x → IsLine x × (text ≡ line_text x)
unfolding line_of
line_of_is l text x h =
    let s = line_is line_in line_fields IsLine HasBytes (line_format l) line_some text x h in
    (s.0, s.1 ∙ line_row x)

-- the text of a line tells it
pub line_of_back : PartLaws → (x : Line) → IsLine x → HasBytes x → line_of (line_text x) ≡ Some x
unfolding line_of
line_of_back l x v b =
    ap (λ text. line_in (tokens_of text) >>= ended) (sym (line_row x)) ∙ line_back line_in line_fields IsLine HasBytes (line_format l) line_some x v b

-- ---- lines with moments

abbrev stamped_made : ℕ × Line → Stamped
stamped_made p = record { moment = p.0; line = p.1 }

abbrev stamped_fields : Stamped → List (List ℕ)
stamped_fields s = decimal s.moment ∷ line_fields s.line

abbrev StampHasBytes : Stamped → Type 0
StampHasBytes s = HasBytes s.line

stamped_parts : PartLaws → IsFormat moment_line (λ p. decimal p.0 ∷ line_fields p.1) (λ p. IsMoment p.0 × IsLine p.1) (λ p. Always p.0 × HasBytes p.1)
stamped_parts l = both_format _ _ _ _ _ _ _ _ (moment_format l.texts) (line_format l)

stamped_format : PartLaws → IsFormat stamped_in stamped_fields IsStamped StampHasBytes
stamped_format l = record {
  spelled = λ ts s left h. made_spelled stamped_made _ _ _ _ IsStamped stamped_fields (stamped_parts l) (λ a v. record { moment = v.0; line = v.1 }) (λ a. refl) ts s left h;
  reads = λ s left v b. made_reads stamped_made _ _ _ _ (stamped_parts l) (s.moment, s.line) left (v.moment, v.line) (tt, b);
  tokens = λ s v b. (stamped_parts l).tokens (s.moment, s.line) (v.moment, v.line) (tt, b);
}

stamped_row : (s : Stamped) → row (stamped_fields s) ≡ stamped_text s
stamped_row s =
    ap (λ text. decimal s.moment ++ 32 ∷ text) (line_row s.line) ∙ sym (append_assoc (decimal s.moment) (codes " ") (line_text s.line))

stamped_some : (s : Stamped) → 0 < length (stamped_fields s)
stamped_some s = omega arith

-- a text that tells a line with its moment is their text
pub stamped_of_is : PartLaws → (text : List ℕ) (s : Stamped) → stamped_of text ≡ Some s → IsStamped s × (text ≡ stamped_text s)
unfolding stamped_of
stamped_of_is l text s h =
    let r = line_is stamped_in stamped_fields IsStamped StampHasBytes (stamped_format l) stamped_some text s h in
    (r.0, r.1 ∙ stamped_row s)

-- the text of a line with its moment tells them
pub stamped_of_back : PartLaws → (s : Stamped) → IsStamped s → HasBytes s.line → stamped_of (stamped_text s) ≡ Some s
unfolding stamped_of
stamped_of_back l s v b =
    ap (λ text. stamped_in (tokens_of text) >>= ended) (sym (stamped_row s))
    ∙ line_back stamped_in stamped_fields IsStamped StampHasBytes (stamped_format l) stamped_some s v b
