use Rattle.std.proofs.Common.{◌≡◌, ap, None, rules}
use Rattle.artery_text.specs.Reading.{Parts, bad_char}
use Rattle.artery_text.proofs.AddressParts.{chars_good, part_ascii}
use Rattle.artery_text.proofs.address_text.read_parts.Goals as goal

pub from_ascii-requires : goal.from_ascii-requires
from_ascii-requires c =
    let e = ap (λ (p : Parts). p.protocol) c.parts.view_is in
    let good : bad_char c.args.parts.now ≡ None = search rules in
    rw e (part_ascii c.args.parts.now.protocol (chars_good c.args.parts.now good).0)

pub from_ascii-requires-2 : goal.from_ascii-requires-2
from_ascii-requires-2 c =
    let e = ap (λ (p : Parts). p.system) c.parts.view_is in
    let good : bad_char c.args.parts.now ≡ None = search rules in
    rw e (part_ascii c.args.parts.now.system (chars_good c.args.parts.now good).1)

pub from_ascii-requires-3 : goal.from_ascii-requires-3
from_ascii-requires-3 c =
    let e = ap (λ (p : Parts). p.host) c.parts.view_is in
    let good : bad_char c.args.parts.now ≡ None = search rules in
    rw e (part_ascii c.args.parts.now.host (chars_good c.args.parts.now good).2)
