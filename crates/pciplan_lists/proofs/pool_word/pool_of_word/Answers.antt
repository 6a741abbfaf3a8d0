use Rattle.std.proofs.Common.{None, Some, ap}
use Rattle.pciplan_lists.proofs.PoolWords.{pool_parts, address_same, pool_same}
use Rattle.pciplan_lists.proofs.pool_word.pool_of_word.Goals as goal

pub returns-in_err-first-clause-word : goal.returns-in_err-first-clause-word
returns-in_err-first-clause-word c = rw c.from_residual.ensures (pool_parts c.args.word.now None c.in_err-first.ensures.cases)

pub returns-in_err-first-clause-only : goal.returns-in_err-first-clause-only
returns-in_err-first-clause-only c = λ pool is. absurd (pool_parts c.args.word.now None c.in_err-first.ensures.cases pool is)

pub returns-in_err-address_of-clause-word : goal.returns-in_err-address_of-clause-word
returns-in_err-address_of-clause-word c =
    rw c.from_residual-in_err-address_of.ensures (λ pool is.
    (let parts = pool_parts c.args.word.now (Some (c.in_ok-first.first, c.in_ok-first.last)) c.in_ok-first.ensures.cases pool is in
    c.in_err-address_of.ensures pool.first parts.0))

pub returns-in_err-address_of-clause-only : goal.returns-in_err-address_of-clause-only
returns-in_err-address_of-clause-only c = λ pool is.
    let parts = pool_parts c.args.word.now (Some (c.in_ok-first.first, c.in_ok-first.last)) c.in_ok-first.ensures.cases pool is in
    absurd (c.in_err-address_of.ensures pool.first parts.0)

pub returns-in_err-address_of-2-clause-word : goal.returns-in_err-address_of-2-clause-word
returns-in_err-address_of-2-clause-word c =
    rw c.from_residual-in_err-address_of-2.ensures (λ pool is.
    (let parts = pool_parts c.args.word.now (Some (c.in_ok-first.first, c.in_ok-first.last)) c.in_ok-first.ensures.cases pool is in
    c.in_err-address_of-2.ensures pool.last parts.1))

pub returns-in_err-address_of-2-clause-only : goal.returns-in_err-address_of-2-clause-only
returns-in_err-address_of-2-clause-only c = λ pool is.
    let parts = pool_parts c.args.word.now (Some (c.in_ok-first.first, c.in_ok-first.last)) c.in_ok-first.ensures.cases pool is in
    absurd (c.in_err-address_of-2.ensures pool.last parts.1)

pub returns-clause-only : goal.returns-clause-only
returns-clause-only c = λ pool is.
    let parts = pool_parts c.args.word.now (Some (c.in_ok-first.first, c.in_ok-first.last)) c.in_ok-first.ensures.cases pool is in
    let first = address_same _ _ pool.first c.in_ok-address_of.ensures parts.0 in
    let last = address_same _ _ pool.last c.in_ok-address_of-2.ensures parts.1 in
    ap Some (pool_same record { first = c.in_ok-address_of.field-0; last = c.in_ok-address_of-2.field-0 } pool first last)
