use Rattle.std.proofs.Common.{◌≤◌, ◌<◌, ◌++◌, ◌∙◌, length, take, arith, length-append}
use Rattle.std.proofs.lemmas.List.{length-take}
use Rattle.std.proofs.KnownBytes.{Consumes-kept, Consumes-trans}
use Rattle.ff_input.proofs.Taken.{takes_from}
use Rattle.ff_input.proofs.input_bytes.read_into.Goals as goal

pub returns-in-Err-clause-err : goal.returns-in-Err-clause-err
returns-in-Err-clause-err g c =
    let loop = c.loop.invariant in
    let read = c.in-Err.ensures in
    let taken = Consumes-kept _ _ _ c.loop.bytes.items loop.taken read.kept in
    record {
      bytes = takes_from _ _ c.loop.bytes.items _ taken loop.size;
      faults = rw loop.faults at read.faults;
    }

pub returns-then-len-gt-INPUT_LIMIT-clause-err : goal.returns-then-len-gt-INPUT_LIMIT-clause-err
returns-then-len-gt-INPUT_LIMIT-clause-err g c =
    let loop = c.loop.invariant in
    let read = c.in-Ok.ensures in
    let front = take c.in-Ok.count c.read.new.into in
    let taken = Consumes-trans _ _ _ c.loop.bytes.items front loop.taken read.taken in
    let size = c.append_reserved.ensures.len in
    let both = length-append c.loop.bytes.items front in
    let part = length-take c.in-Ok.count c.read.new.into in
    let more : 67108864 < length (c.loop.bytes.items ++ front) =
    omega (arith, size, c.if-len-gt-INPUT_LIMIT.true, c.len.ensures, both) in
    let most : length (c.loop.bytes.items ++ front) ≤ 67174400 = omega (arith, read.bound, loop.chunk, loop.size, both, part) in
    record {
      bytes = takes_from _ _ (c.loop.bytes.items ++ front) _ taken (more, most);
      faults = read.faults ∙ loop.faults;
    }

pub loop-preserved : goal.loop-preserved
loop-preserved g c =
    let loop = c.loop.invariant in
    let read = c.in-Ok.ensures in
    let front = take c.in-Ok.count c.read.new.into in
    let size = c.append_reserved.ensures.len in
    let both = length-append c.loop.bytes.items front in
    let part = length-take c.in-Ok.count c.read.new.into in
    rw c.append_reserved.ensures.items record {
      taken = Consumes-trans _ _ _ c.loop.bytes.items front loop.taken read.taken;
      faults = read.faults ∙ loop.faults;
      size = omega (arith, size, c.if-len-gt-INPUT_LIMIT.false, c.len.ensures, both);
      count = omega (arith, loop.count, read.bound, c.read.auto.into, c.in-Ok.count-test.1, both, part);
      room = omega (arith, c.append_reserved.ensures.capacity, loop.room);
      chunk = c.read.auto.into ∙ loop.chunk;
    }
