use Rattle.std.proofs.Common.{◌%◌, ℕ, ap, arith, inl, inr, take}
use Rattle.std.proofs.lemmas.Bool.{cases_lt}
use Rattle.std.proofs.lemmas.Result.{err_from_is_err_and}
use Rattle.pci_machine.proofs.SizesTaken.{read_chunk, read_one, read_fault, longer_by_chunk, whole_chunk}
use Rattle.pci_machine.proofs.sizes_reader.read_sizes.Goals as goal

pub returns-in_err-take_blocks-clause-fault : goal.returns-in_err-take_blocks-clause-fault
returns-in_err-take_blocks-clause-fault g c =
    let p = err_from_is_err_and c.from_residual.result c.from_residual.ensures.1 in
    rw (p.1, p.2) (λ bytes known no_io no_memory.
    read_fault (g.S.Source.left c.args.source.now) (g.S.Source.left c.loop-sizes.source) (g.S.Source.left c.fill.new.source) c.loop-sizes.sizes (take c.in-Ok.len c.fill.new.chunk) bytes c.in_err-take_blocks.field-0.0
    c.loop-sizes.invariant.read c.in-Ok.ensures.bytes
    (elim (cases_lt c.in-Ok.len 8160) [
      | inl part ↦ inr (c.in-Ok.ensures.end part)
      | inr whole ↦ inl (ap (λ (n : ℕ). n % 408) (whole_chunk c.fill.new.chunk c.in-Ok.len c.fill.array_long whole))
    ])
    (c.in_err-take_blocks.ensures.fault no_memory) known)

pub returns-then-len-lt-CHUNK_LEN-clause-only : goal.returns-then-len-lt-CHUNK_LEN-clause-only
returns-then-len-lt-CHUNK_LEN-clause-only g c = λ bytes known others text.
    let read = read_chunk (g.S.Source.left c.args.source.now) (g.S.Source.left c.loop-sizes.source) (g.S.Source.left c.fill.new.source) c.loop-sizes.sizes c.take_blocks.new.sizes (take c.in-Ok.len c.fill.new.chunk)
    c.loop-sizes.invariant.read c.in-Ok.ensures.bytes c.in_ok-take_blocks.ensures.text c.in_ok-take_blocks.ensures.sizes in
    read_one (g.S.Source.left c.args.source.now) (g.S.Source.left c.fill.new.source) c.take_blocks.new.sizes others bytes read (c.in-Ok.ensures.end c.if-len-lt-CHUNK_LEN.true) known text

pub loop-sizes-smaller : goal.loop-sizes-smaller
loop-sizes-smaller g c =
    let chunk = whole_chunk c.fill.new.chunk c.in-Ok.len c.fill.array_long c.if-len-lt-CHUNK_LEN.false in
    let more = c.in_ok-take_blocks.ensures.sizes in
    let room = more.room in
    let longer = longer_by_chunk c.loop-sizes.sizes c.take_blocks.new.sizes (take c.in-Ok.len c.fill.new.chunk) c.loop-sizes.invariant.read.sizes more c.in_ok-take_blocks.ensures.text (omega (arith, chunk)) in
    omega (arith, longer, room)
