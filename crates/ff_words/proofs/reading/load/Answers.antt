use Rattle.clap.specs.Words.{found_of, rows_of}
use Rattle.ff_words.proofs.Entered.{none-numbered}
use Rattle.ff_words.proofs.reading.load.Goals as goal

pub returns-in-None : goal.returns-in-None
returns-in-None c = none-numbered (rows_of (found_of c.args.matches.now)) c.in-None.ensures
