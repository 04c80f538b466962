use Rattle.std.proofs.Common.{rules, ◌≡◌, ◌∙◌, length}
use Rattle.std.proofs.lemmas.List.{take_at}
use Rattle.artery_text.proofs.HexBlocks.{digits_read}
use Rattle.artery_text.proofs.hexadecimal.read_long.Goals as goal

pub returns : goal.returns
returns c =
    let len : length c.fill_bytes.new.bytes ≡ c.in-Ok.bytes.len = search rules in
    digits_read c.args.text.now c.from_vec.result c.requires.even c.requires.digits (c.from_vec.ensures ∙ take_at c.fill_bytes.new.bytes _ c.in-Ok.bytes.len len ∙ c.fill_bytes.ensures.read)
