use Rattle.std.proofs.Common.{◌∙◌, sym, eqb-true}
use Rattle.std.proofs.lemmas.Bool.{eq-eqb}
use Rattle.ff_frames.proofs.FreeCount.{none-counted, none-free}
use Rattle.ff_frames.proofs.frames.Frames.is_full.Goals as goal

pub returns : goal.returns
returns c =
    let frames = c.self.inside.frames.items in
    rw (← c.self.view_is) (
      (λ full. none-free frames (sym c.self.invariant.counted ∙ eqb-true c.self.inside.free 0 full)),
      (λ none. eq-eqb c.self.inside.free 0 (c.self.invariant.counted ∙ none-counted frames none)),
    )
