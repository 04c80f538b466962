-- Each field of a line is read exactly on the text of its value.
use Rattle.std.proofs.Common.{◌≡◌, ℕ, ◌^◌, ◌<◌, Bool, true, false, List, [], ◌∷◌, Option, Some, None, Ok, refl, sym, ap, ◌∙◌, subst}
use Rattle.std.specs.Prelude.{codes, decimal, bytes_eq, IsAscii}
use Rattle.std.specs.Result.{result_ok}
use Rattle.artery_base.specs.declared.address.UniqueAddress.{UniqueAddress}
use Rattle.artery_base.specs.Valid.{IsToken, IsUniqueAddress}
use Rattle.artery_text.specs.Spelling.{unique_text, word_text}
use Rattle.artery_text.specs.Reading.{number_of, unique_of}
use Rattle.artery_lines.specs.Lines.{◌>>=◌}
use Rattle.artery_script.specs.Valid.{IsActor}
use Rattle.artery_script.specs.Reading.{word_told, ascii_told, actor_told}
use Rattle.artery_script.proofs.Formats.{NoSpace, IsField, Always, token_no_space, some_is, steps, found, word_is, word_row}
use Rattle.artery_script.proofs.FieldLaws.{TextLaws, ascii_told_is, ascii_back, ascii_bytes, word_field}
use Rattle.artery_script.proofs.ActorLaws.{actor_field}
use Rattle.artery_journal.specs.declared.words.Cause.{Cause}
use Rattle.artery_journal.specs.declared.words.Cause.TheVariants as causes
use Rattle.artery_journal.specs.declared.words.Kind.{Kind}
use Rattle.artery_journal.specs.declared.words.Kind.TheVariants as kinds
use Rattle.artery_journal.specs.declared.words.Reason.{Reason}
use Rattle.artery_journal.specs.declared.words.Reason.TheVariants as reasons
use Rattle.artery_journal.specs.declared.words.Which.{Which}
use Rattle.artery_journal.specs.declared.words.Which.TheVariants as whiches
use Rattle.artery_journal.specs.Texts.{who, cause_text, kind_text, reason_text, which_text, nonce_text}
use Rattle.artery_journal.specs.Valid.{IsNonce, IsRef}
use Rattle.artery_journal_reading.specs.Reading.{unique_told, name_told, nonce_told, kind_told, which_told, cause_told, actor_reason_told, reason_told}

-- what is promised of the texts of the parts
pub record PartLaws : Type 0 where
  pub texts : TextLaws
  pub uniques_read : (u : UniqueAddress) → IsUniqueAddress u → unique_of (unique_text u) ≡ Ok u
  pub uniques_spelled : (text : List ℕ) (u : UniqueAddress) → unique_of text ≡ Ok u → IsUniqueAddress u × (text ≡ unique_text u)
  pub unique_tokens : (u : UniqueAddress) → IsUniqueAddress u → IsToken (unique_text u)

pub unique_field : PartLaws → IsField unique_told who IsUniqueAddress Always
unfolding who
unique_field l = record {
  spelled = λ t x h. l.uniques_spelled t x (found (unique_of t) x h);
  reads = λ x v b. ap result_ok (l.uniques_read x v);
  token = λ x v b. token_no_space (unique_text x) (l.unique_tokens x v);
}

-- ---- names and actors

pub name_field : TextLaws → IsField name_told word_text (λ x. IsAscii x) Always
name_field l = record {
  spelled = spelled;
  reads = λ x v b. ap (λ o. o >>= ascii_told) ((word_field l).reads x tt (ascii_bytes x v)) ∙ ascii_back x v;
  token = λ x v b. token_no_space (word_text x) (l.word_tokens x (ascii_bytes x v));
}
  where
    spelled : (t x : List ℕ) → name_told t ≡ Some x → IsAscii x × (t ≡ word_text x)
    spelled t x h =
        let s = steps (word_told t) ascii_told x h in
        let m = (word_field l).spelled t s.value s.first in
        let a = ascii_told_is s.value x s.then_ in
        (a.0, m.1 ∙ ap word_text a.1)

as_ref : (x : List ℕ) → IsActor x → IsRef x
as_ref x v = record { address = v.address; path = v.path; spelled = v.spelled; address_good = v.address_good; path_good = v.path_good }

as_actor : (x : List ℕ) → IsRef x → IsActor x
as_actor x v = record { address = v.address; path = v.path; spelled = v.spelled; address_good = v.address_good; path_good = v.path_good }

pub ref_field : TextLaws → IsField actor_told (λ x. x) IsRef Always
ref_field l = record {
  spelled = λ t x h. let s = (actor_field l).spelled t x h in (as_ref x s.0, s.1);
  reads = λ x v b. (actor_field l).reads x (as_actor x v) b;
  token = λ x v b. (actor_field l).token x (as_actor x v) b;
}

-- ---- nonces

-- a word that is no value is not the text of one
pub not_word : {X : Type 0} (told : List ℕ → Option X) (w : List ℕ) → told w ≡ None → (t : List ℕ) (x : X) → told t ≡ Some x → bytes_eq t w ≡ false
not_word {X} told w none t x h = is (bytes_eq t w) refl
  where
    is : (b : Bool) → bytes_eq t w ≡ b → b ≡ false
    is false e = refl
    is true e =
        let clash : None ≡ Some x = sym none ∙ ap told (sym (word_is t w e)) ∙ h in
        absurd cc

no_number : number_of (codes "-") ≡ None
no_number = refl

pub nonce_field : TextLaws → IsField nonce_told nonce_text IsNonce Always
nonce_field l = record { spelled = spelled; reads = reads; token = token }
  where
    number : (t : List ℕ) (x : Option ℕ) → (number_of t >>= λ n. Some (Some n)) ≡ Some x → IsNonce x × (t ≡ nonce_text x)
    number t x h =
        let s = steps (number_of t) (λ n. Some (Some n)) x h in
        let z = l.numbers_spelled t s.value s.first in
        subst (λ (x : Option ℕ). IsNonce x × (t ≡ nonce_text x)) (some_is (Some s.value) x s.then_) (z.0, z.1)

    spelled : (t : List ℕ) (x : Option ℕ) → nonce_told t ≡ Some x → IsNonce x × (t ≡ nonce_text x)
    spelled t x h = word_row t (codes "-") None x (number_of t >>= λ n. Some (Some n)) (λ x. IsNonce x × (t ≡ nonce_text x)) h (λ e. (tt, e)) (number t x)

    reads : (x : Option ℕ) → IsNonce x → Always x → nonce_told (nonce_text x) ≡ Some x
    reads None v b = refl
    reads (Some n) v b =
        let back : number_of (decimal n) ≡ Some n = l.numbers_read n v in
        rw (not_word number_of (codes "-") no_number (decimal n) n back, back) refl

    token : (x : Option ℕ) → IsNonce x → Always x → NoSpace (nonce_text x)
    token None v b = refl
    token (Some n) v b = token_no_space (decimal n) (l.number_tokens n v)

-- ---- words

kind_told_is : (t : List ℕ) (x : Kind) → kind_told t ≡ Some x → t ≡ kind_text x
kind_told_is t x h =
    word_row t (codes "refs") kinds.Refs x _ (λ x. t ≡ kind_text x) h (λ e. e)
    (λ h. word_row t (codes "manifests") kinds.Manifests x _ (λ x. t ≡ kind_text x) h (λ e. e)
    (λ h. absurd cc))

kind_told_back : (x : Kind) → kind_told (kind_text x) ≡ Some x
kind_told_back kinds.Refs = refl
kind_told_back kinds.Manifests = refl

kind_text_token : (x : Kind) → NoSpace (kind_text x)
kind_text_token kinds.Refs = refl
kind_text_token kinds.Manifests = refl

pub kind_field : IsField kind_told kind_text Always Always
kind_field = record { spelled = λ t x h. (tt, kind_told_is t x h); reads = λ x v b. kind_told_back x; token = λ x v b. kind_text_token x }

which_told_is : (t : List ℕ) (x : Which) → which_told t ≡ Some x → t ≡ which_text x
which_told_is t x h =
    word_row t (codes "sender") whiches.Sender x _ (λ x. t ≡ which_text x) h (λ e. e)
    (λ h. word_row t (codes "recipient") whiches.Recipient x _ (λ x. t ≡ which_text x) h (λ e. e)
    (λ h. word_row t (codes "manifest") whiches.Manifest x _ (λ x. t ≡ which_text x) h (λ e. e)
    (λ h. absurd cc)))

which_told_back : (x : Which) → which_told (which_text x) ≡ Some x
which_told_back whiches.Sender = refl
which_told_back whiches.Recipient = refl
which_told_back whiches.Manifest = refl

which_text_token : (x : Which) → NoSpace (which_text x)
which_text_token whiches.Sender = refl
which_text_token whiches.Recipient = refl
which_text_token whiches.Manifest = refl

pub which_field : IsField which_told which_text Always Always
which_field = record { spelled = λ t x h. (tt, which_told_is t x h); reads = λ x v b. which_told_back x; token = λ x v b. which_text_token x }

cause_told_is : (t : List ℕ) (x : Cause) → cause_told t ≡ Some x → t ≡ cause_text x
cause_told_is t x h =
    word_row t (codes "superseded") causes.Superseded x _ (λ x. t ≡ cause_text x) h (λ e. e)
    (λ h. word_row t (codes "quarantined") causes.Quarantined x _ (λ x. t ≡ cause_text x) h (λ e. e)
    (λ h. word_row t (codes "unreachable") causes.Unreachable x _ (λ x. t ≡ cause_text x) h (λ e. e)
    (λ h. word_row t (codes "overflow") causes.Overflow x _ (λ x. t ≡ cause_text x) h (λ e. e)
    (λ h. word_row t (codes "undelivered") causes.Undelivered x _ (λ x. t ≡ cause_text x) h (λ e. e)
    (λ h. absurd cc)))))

cause_told_back : (x : Cause) → cause_told (cause_text x) ≡ Some x
cause_told_back causes.Superseded = refl
cause_told_back causes.Quarantined = refl
cause_told_back causes.Unreachable = refl
cause_told_back causes.Overflow = refl
cause_told_back causes.Undelivered = refl

cause_text_token : (x : Cause) → NoSpace (cause_text x)
cause_text_token causes.Superseded = refl
cause_text_token causes.Quarantined = refl
cause_text_token causes.Unreachable = refl
cause_text_token causes.Overflow = refl
cause_text_token causes.Undelivered = refl

pub cause_field : IsField cause_told cause_text Always Always
cause_field = record { spelled = λ t x h. (tt, cause_told_is t x h); reads = λ x v b. cause_told_back x; token = λ x v b. cause_text_token x }

actor_reason_told_is : (t : List ℕ) (x : Reason) → actor_reason_told t ≡ Some x → t ≡ reason_text x
unfolding actor_reason_told
actor_reason_told_is t x h =
    word_row t (codes "exists") reasons.Exists x _ (λ x. t ≡ reason_text x) h (λ e. e)
    (λ h. word_row t (codes "actors") reasons.Actors x _ (λ x. t ≡ reason_text x) h (λ e. e)
    (λ h. word_row t (codes "not-there") reasons.NotThere x _ (λ x. t ≡ reason_text x) h (λ e. e)
    (λ h. word_row t (codes "not-current") reasons.NotCurrent x _ (λ x. t ≡ reason_text x) h (λ e. e)
    (λ h. word_row t (codes "closed-uids") reasons.ClosedUids x _ (λ x. t ≡ reason_text x) h (λ e. e)
    (λ h. word_row t (codes "remote-watches") reasons.RemoteWatches x _ (λ x. t ≡ reason_text x) h (λ e. e)
    (λ h. absurd cc))))))

reason_told_is : (t : List ℕ) (x : Reason) → reason_told t ≡ Some x → t ≡ reason_text x
unfolding reason_told
reason_told_is t x h =
    word_row t (codes "peers") reasons.Peers x _ (λ x. t ≡ reason_text x) h (λ e. e)
    (λ h. word_row t (codes "connections") reasons.Connections x _ (λ x. t ≡ reason_text x) h (λ e. e)
    (λ h. word_row t (codes "waiting") reasons.Waiting x _ (λ x. t ≡ reason_text x) h (λ e. e)
    (λ h. word_row t (codes "held") reasons.Held x _ (λ x. t ≡ reason_text x) h (λ e. e)
    (λ h. word_row t (codes "watching") reasons.Watching x _ (λ x. t ≡ reason_text x) h (λ e. e)
    (λ h. word_row t (codes "watches") reasons.Watches x _ (λ x. t ≡ reason_text x) h (λ e. e)
    (λ h. word_row t (codes "not-watched") reasons.NotWatched x _ (λ x. t ≡ reason_text x) h (λ e. e)
    (actor_reason_told_is t x)))))))

reason_told_back : (x : Reason) → reason_told (reason_text x) ≡ Some x
unfolding reason_told actor_reason_told
reason_told_back reasons.Peers = refl
reason_told_back reasons.Connections = refl
reason_told_back reasons.Waiting = refl
reason_told_back reasons.Held = refl
reason_told_back reasons.Watching = refl
reason_told_back reasons.Watches = refl
reason_told_back reasons.NotWatched = refl
reason_told_back reasons.Exists = refl
reason_told_back reasons.Actors = refl
reason_told_back reasons.NotThere = refl
reason_told_back reasons.NotCurrent = refl
reason_told_back reasons.ClosedUids = refl
reason_told_back reasons.RemoteWatches = refl

reason_text_token : (x : Reason) → NoSpace (reason_text x)
reason_text_token reasons.Peers = refl
reason_text_token reasons.Connections = refl
reason_text_token reasons.Waiting = refl
reason_text_token reasons.Held = refl
reason_text_token reasons.Watching = refl
reason_text_token reasons.Watches = refl
reason_text_token reasons.NotWatched = refl
reason_text_token reasons.Exists = refl
reason_text_token reasons.Actors = refl
reason_text_token reasons.NotThere = refl
reason_text_token reasons.NotCurrent = refl
reason_text_token reasons.ClosedUids = refl
reason_text_token reasons.RemoteWatches = refl

pub reason_field : IsField reason_told reason_text Always Always
reason_field = record { spelled = λ t x h. (tt, reason_told_is t x h); reads = λ x v b. reason_told_back x; token = λ x v b. reason_text_token x }
