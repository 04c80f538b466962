use Rattle.artery_tables.specs.InTables.{number_kept}
use Rattle.artery_machine.specs.Node.{origin_at}
use Rattle.artery_node.proofs.Heard.{shown_so}
use Rattle.artery_node.proofs.work.Work.shows.Goals as goal

-- the numbers that are shown are those of the versions in the envelope
pub returns : goal.returns
returns c =
    shown_so c.args.conn c.numbers_of-refs.result.0 c.numbers_of-refs.result.1
    (number_kept (origin_at c.args.v.now c.args.self.now.node).tables.refs c.args.envelope.refs_version)
    (number_kept (origin_at c.args.v.now c.args.self.now.node).tables.manifests c.args.envelope.manifests_version)
    c.args.self.now c.show.new.self c.numbers_of-refs.ensures.refs c.numbers_of-refs.ensures.manifests c.show.ensures
