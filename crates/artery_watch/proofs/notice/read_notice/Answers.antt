use Rattle.artery_watch.proofs.Notices.{read_found, read_only}
use Rattle.artery_watch.proofs.notice.read_notice.Goals as goal

pub returns-clause-found : goal.returns-clause-found
returns-clause-found c = read_found c.read.result c.args.payload.now (λ k. (c.type_inv.payload k).fits) c.read.ensures

pub returns-clause-only : goal.returns-clause-only
returns-clause-only c = read_only c.read.result c.args.payload.now c.read.ensures
