-- So many probes went well, and the next did or stopped.
use Rattle.std.proofs.Common.{◌≡◌, ℕ, None, Some, length, ap, subst, ◌∙◌, arith}
use Rattle.std.specs.Prelude.{IfSome}
use Rattle.ff_flash.specs.FlashState.{FlashState}
use Rattle.ff_scan.proofs.Probed.{all_told, planned_here, probed_more, probing_none, room_for, under_way_more}
use Rattle.ff_scan.specs.Probing.{IsProbed, first_stop}
use Rattle.ff_scan.proofs.probing.probe_all.Goals as goal

pub loop-place-init : goal.loop-place-init
loop-place-init g c =
    probing_none (g.F.Flash.state c.args.flash.now) c.args.places _ c.args.probes.now.items c.requires.none
    c.requires.room

pub probe_one-requires-clause-on : goal.probe_one-requires-clause-on
probe_one-requires-clause-on g c = ap (λ (f : FlashState). f.on) c.loop-place.invariant.went ∙ c.requires.on

pub probe_one-requires-clause-uncut : goal.probe_one-requires-clause-uncut
probe_one-requires-clause-uncut g c =
    ap (λ (f : FlashState). f.cut) c.loop-place.invariant.went ∙ c.requires.uncut

pub probe_one-requires-clause-place : goal.probe_one-requires-clause-place
probe_one-requires-clause-place g c =
    let size = ap (λ (f : FlashState). length f.cells) c.loop-place.invariant.went in
    omega (arith, c.requires.places)

pub probe_one-requires-clause-life : goal.probe_one-requires-clause-life
probe_one-requires-clause-life g c =
    let made = ap (λ (f : FlashState). f.operations) c.loop-place.invariant.went in
    omega (arith, c.requires.life)

pub probe_one-requires-clause-room : goal.probe_one-requires-clause-room
probe_one-requires-clause-room g c =
    omega (
      arith,
      c.loop-place.probes.ok.0,
      room_for (g.F.Flash.state c.args.flash.now) (g.F.Flash.state c.loop-place.flash) c.loop-place.place
          c.args.places _ c.loop-place.probes.items c.requires.places c.loop-place-test.true c.loop-place.invariant,
    )

pub returns-in-Err-clause-probes : goal.returns-in-Err-clause-probes
returns-in-Err-clause-probes g c = tt

pub returns-in-Err-clause-room : goal.returns-in-Err-clause-room
returns-in-Err-clause-room g c =
    let room = c.loop-place.invariant.room in
    omega (arith, c.in-Err.ensures.room)

pub returns-in-Err-clause-flash : goal.returns-in-Err-clause-flash
returns-in-Err-clause-flash g c =
    probed_more (g.F.Flash.state c.args.flash.now) (g.F.Flash.state c.loop-place.flash)
    (g.F.Flash.state c.probe_one.new.flash) c.loop-place.place (Some c.in-Err.stop) c.loop-place.invariant.went c.in-Err.ensures.flash

pub returns-in-Err-clause-planned : goal.returns-in-Err-clause-planned
returns-in-Err-clause-planned g c =
    planned_here (g.F.Flash.state c.args.flash.now) (g.F.Flash.state c.loop-place.flash) c.loop-place.place c.args.places
    c.in-Err.stop (omega arith) c.loop-place.invariant.went c.loop-place.invariant.planned c.in-Err.ensures.planned

pub loop-place-preserved : goal.loop-place-preserved
loop-place-preserved g c =
    under_way_more (g.F.Flash.state c.args.flash.now) (g.F.Flash.state c.loop-place.flash) (g.F.Flash.state c.probe_one.new.flash)
    c.loop-place.place c.args.places _ _ _ _ (omega (arith, c.requires.places)) c.loop-place.invariant c.in-Ok.ensures.flash
    c.in-Ok.ensures.planned c.in-Ok.ensures.probes c.in-Ok.ensures.room

pub returns-clause-probes : goal.returns-clause-probes
returns-clause-probes g c =
    c.loop-place.invariant.told
    ∙ all_told (g.F.Flash.state c.args.flash.now).cells c.loop-place.place (omega (arith, c.requires.places))

pub returns-clause-room : goal.returns-clause-room
returns-clause-room g c = c.loop-place.invariant.room

pub returns-clause-flash : goal.returns-clause-flash
returns-clause-flash g c =
    let old = g.F.Flash.state c.args.flash.now in
    let all : c.loop-place.place ≡ c.args.places = omega arith in
    subst (λ (n : ℕ). IsProbed old n None (g.F.Flash.state c.loop-place.flash)) all
    c.loop-place.invariant.went

pub returns-clause-planned : goal.returns-clause-planned
returns-clause-planned g c =
    let old = g.F.Flash.state c.args.flash.now in
    let all : c.loop-place.place ≡ c.args.places = omega arith in
    subst (λ (n : ℕ). IfSome old.plan (λ plan. None ≡ first_stop plan old.operations n)) all
    c.loop-place.invariant.planned
