-- Answers that are owed, read before any of them is written.
use Rattle.std.proofs.Common.{◌≡◌, ℕ, List, [], ◌∷◌, refl, ap, ◌∙◌}
use Rattle.std.specs.Prelude.{map}
use Rattle.artery_base.specs.declared.address.Address.{Address}
use Rattle.artery_handshake.specs.declared.in_conn.InState.{InState}
use Rattle.artery_handshake.specs.declared.in_conn.InState.TheVariants.{Raw, Known}
use Rattle.artery_machine.specs.Parts.{kept}
use Rattle.artery_machine.specs.Node.{Inbound}
use Rattle.artery_machine.specs.Doing.{Doing, in_bytes, each}
use Rattle.artery_machine.specs.Handshaking.{answers_owed, answers_all}
use Rattle.artery_meeting.specs.declared.dialing.Owed.{Owed}
use Rattle.artery_meeting.specs.Owing.{speaks_at, owed_on, answers_one}

one_answered : (address : Address) (dial : ℕ) (i : Inbound kept) (d : Doing kept in_bytes) → answers_one dial (owed_on address i) d ≡ answers_owed address dial i i.state d
one_answered address dial i d = by i.state
  where
    by : (state : InState) → answers_one dial (record { number = i.number; answer = i.owed; here = speaks_at address state }) d ≡ answers_owed address dial i state d
    by Raw = refl
    by (Known who its_nonce) = refl

each_answered : (address : Address) (dial : ℕ) (is : List (Inbound kept)) (d : Doing kept in_bytes)
    → each (map (owed_on address) is) (answers_one dial) d ≡ each is (λ i. answers_owed address dial i i.state) d
each_answered address dial [] d = refl
each_answered address dial (i ∷ is) d =
    ap (each (map (owed_on address) is) (answers_one dial)) (one_answered address dial i d)
    ∙ each_answered address dial is (answers_owed address dial i i.state d)

-- Where each that was read is answered, all are.
pub all_answered : (address : Address) (dial : ℕ) (list : List Owed) (d e : Doing kept in_bytes) → list ≡ map (owed_on address) d.node.inbound
    → e ≡ each list (answers_one dial) d → e ≡ answers_all address dial d
all_answered address dial list d e read done =
    done ∙ ap (λ (all : List Owed). each all (answers_one dial) d) read ∙ each_answered address dial d.node.inbound d
