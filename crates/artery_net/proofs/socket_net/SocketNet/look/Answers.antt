use Rattle.artery_net.proofs.socket_net.SocketNet.look.Goals as goal

pub returns-in_ok-push_back-in-Up-clause-event : goal.returns-in_ok-push_back-in-Up-clause-event
returns-in_ok-push_back-in-Up-clause-event g c = c.dialed.ensures _

pub returns-in-Gone-clause-event : goal.returns-in-Gone-clause-event
returns-in-Gone-clause-event g c = c.gone.ensures _
