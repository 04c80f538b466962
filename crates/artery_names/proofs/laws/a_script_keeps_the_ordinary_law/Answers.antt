use Rattle.artery_names.proofs.laws.a_script_keeps_the_ordinary_law.Goals as goal

pub returns-clause-kept : goal.returns-clause-kept
returns-clause-kept c = λ script told. c.a_network_keeps_the_ordinary_law.ensures.kept script (c.what_is_written_is_read_back.ensures script told)

pub returns-clause-whole : goal.returns-clause-whole
returns-clause-whole c = λ script told. c.a_network_keeps_the_ordinary_law.ensures.whole script (c.what_is_written_is_read_back.ensures script told)
