use Rattle.std.proofs.Common.{rules}
use Rattle.artery_cli.proofs.Merges.{text_of_merge}
use Rattle.artery_cli.proofs.auditing.merge_text.Goals as goal

pub returns : goal.returns
returns c = text_of_merge c.as_slice.result.now (λ r. r.now) c.args.merge.now _ c.put_lines.new.text c.as_slice.ensures c.in_ok-put_lines.ensures (search rules)
