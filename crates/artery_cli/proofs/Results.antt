-- What is said of each error of a result, or of each value.
use Rattle.std.proofs.Common.{◌≡◌, sym, subst}
use Rattle.std.specs.Prelude.{Result, Ok, Err, IfOk, IfErr, IsErr, IsErrAnd}
use Rattle.artery_cli.specs.declared.stop.Stop.{Stop}

pub if_err : {X : Type 0} (r : Result X Stop) (P Q : Stop → Type 0) → ((stop : Stop) → P stop → Q stop) → IfErr r P → IfErr r Q
if_err (Ok x) P Q f h = tt
if_err (Err stop) P Q f h = f stop h

pub if_ok : {X : Type 0} (r : Result X Stop) (P Q : X → Type 0) → ((x : X) → P x → Q x) → IfOk r P → IfOk r Q
if_ok (Ok x) P Q f h = f x h
if_ok (Err stop) P Q f h = tt

-- an error that is this one
pub stops_with : {X : Type 0} (r : Result X Stop) (stop : Stop) (Q : Stop → Type 0) → IsErr r × IsErrAnd r (λ e. e ≡ stop) → Q stop → IfErr r Q
stops_with (Ok x) stop Q h q = tt
stops_with (Err e) stop Q h q = subst Q (sym h.1) q
