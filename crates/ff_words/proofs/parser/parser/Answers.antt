use Rattle.std.proofs.lemmas.Result.{IfOk-weaker}
use Rattle.ff_words.specs.CommandLine.{flatflash}
use Rattle.ff_words.proofs.parser.parser.Goals as goal

pub returns : goal.returns
unfolding flatflash
returns c =
    let schedule = c.in_ok-schedule.ensures _ _ c.named.ensures (record { told = c.new.ensures.app; own = c.new.ensures.local }) in
    let threads = c.in_ok-threads.ensures _ _ schedule (record { told = c.new-2.ensures.app; own = c.new-2.ensures.local }) in
    IfOk-weaker c.with_load.result _ _ (λ parser told. told.told) (c.with_load.ensures _ threads)
