use Rattle.std.proofs.Common.{◌≡◌, None, Some, refl, sym, true}
use Rattle.ff_memory.specs.LineBytes.{line_in_page, page_of, serving_frame}
use Rattle.ff_memory.proofs.Alike.{like-device_load, like-located, like-lines, like-referred}
use Rattle.ff_memory.proofs.memory.Memory.load.Goals as goal

pub returns-in-Some-clause-located : goal.returns-in-Some-clause-located
returns-in-Some-clause-located g c =
    let m = c.args.self.now in
    let d = g.D.LineDevice.state c.args.d.now in
    rw c.load_frame.ensures.memory (like-located m d _ d c.requires.located (like-referred m d c.in-Some.frame true))

pub returns-in-Some-clause-lines : goal.returns-in-Some-clause-lines
returns-in-Some-clause-lines g c =
    let m = c.args.self.now in
    let d = g.D.LineDevice.state c.args.d.now in
    rw c.load_frame.ensures.memory (like-lines m d _ d (like-referred m d c.in-Some.frame true))

pub returns-in-None-clause-located : goal.returns-in-None-clause-located
returns-in-None-clause-located g c =
    let m = c.args.self.now in
    like-located m _ m _ c.requires.located (like-device_load _ _ _ m _ _ _ (c.load_device.ensures.load m))

pub returns-in-None-clause-lines : goal.returns-in-None-clause-lines
returns-in-None-clause-lines g c =
    let m = c.args.self.now in
    like-lines m _ m _ (like-device_load _ _ _ m _ _ _ (c.load_device.ensures.load m))

pub returns-in-Some-clause-load : goal.returns-in-Some-clause-load
returns-in-Some-clause-load g c =
    let at = c.of-at.ensures in
    let serves : serving_frame c.args.self.now (page_of c.args.at) (line_in_page c.args.at) ≡ Some c.in-Some.frame =
    rw (at.page, at.line) at (sym c.in-Some.ensures) in
    rw serves record {
      access_is = rw (at.line, at.from) at c.load_frame.ensures.access;
      memory = c.load_frame.ensures.memory;
      device = refl;
    }

pub returns-in-None-clause-load : goal.returns-in-None-clause-load
returns-in-None-clause-load g c =
    let at = c.of-at.ensures in
    let serves : serving_frame c.args.self.now (page_of c.args.at) (line_in_page c.args.at) ≡ None =
    rw (at.page, at.line) at (sym c.in-None.ensures) in
    rw serves (rw (at.page, at.line, at.from) at (c.load_device.ensures.load c.args.self.now))
