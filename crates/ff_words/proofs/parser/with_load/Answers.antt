use Rattle.ff_words.proofs.parser.with_load.Goals as goal

pub returns-in-Ok : goal.returns-in-Ok
returns-in-Ok c a above = c.with.ensures a _ above c.in-Ok.ensures
