-- The frame of an envelope that is appended, or why it is not.
use Rattle.std.proofs.Common.{◌≡◌, ℕ, ◌+◌, Bool, true, false, List, ◌++◌, length, Option, Some, None, Err, refl, sym, ap, ◌∙◌, append_assoc}
use Rattle.std.specs.Prelude.{option_map}
use Rattle.byteorder.specs.Endian.{little_bytes}
use Rattle.artery_header.specs.declared.fault.EncodeFault.{EncodeFault}
use Rattle.artery_frame.specs.Stream.{framed}
use Rattle.artery_header.specs.Envelope.{EnvelopeOf, canonical}
use Rattle.artery_lines.specs.Lines.{line_fault}
use Rattle.artery_making.specs.Made.{Adds, canonical_unless, encode_memory}

-- the length first, and then the bytes where they stay
pub framed_here : (frame old one new : List ℕ) (len : ℕ) → len ≡ length frame → one ≡ old ++ little_bytes 4 len → new ≡ one ++ frame → new ≡ old ++ framed frame
framed_here frame old one new len l a b =
    b
    ∙ ap (λ (t : List ℕ). t ++ frame) (a ∙ ap (λ (n : ℕ). old ++ little_bytes 4 n) l)
    ∙ append_assoc old (little_bytes 4 (length frame)) frame

-- the frame of an envelope that is not refused
pub added_frame : (c : EnvelopeOf) (o : Option EncodeFault) (old new : List ℕ) → o ≡ None → new ≡ old ++ framed (canonical c)
    → option_map (λ bytes. old ++ bytes) (option_map framed (canonical_unless c o)) ≡ Some new
added_frame c None old new h e = ap Some (sym e)
added_frame c (Some fault) old new h e = absurd cc

-- what was not written for another reason than memory is refused
pub refused_frame : (c : EnvelopeOf) (o : Option EncodeFault) (fault : EncodeFault) (old new : List ℕ) → (encode_memory fault ≡ false → o ≡ Some fault)
    → Adds (Err (line_fault (encode_memory fault))) old new (option_map framed (canonical_unless c o))
refused_frame c o fault old new h = by_memory (encode_memory fault) refl
  where
    by_memory : (b : Bool) → encode_memory fault ≡ b → Adds (Err (line_fault b)) old new (option_map framed (canonical_unless c o))
    by_memory true e = tt
    by_memory false e = ap (λ (x : Option EncodeFault). option_map framed (canonical_unless c x)) (h e)
