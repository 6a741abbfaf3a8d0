use Rattle.std.proofs.Common.{sym, subst}
use Rattle.pci_claims.specs.Values.{code_given_value, told_value}
use Rattle.pci_claims.specs.ToldOn.{AreOnIn}
use Rattle.test_judging.proofs.fits.text_of.Goals as goal

pub push_fits-requires-clause-kept : goal.push_fits-requires-clause-kept
push_fits-requires-clause-kept c =
    let told = told_value c.nothing_told-told.result in
    c.no_rooms-rooms.ensures told (code_given_value c.args.given.now) c.args.outline.now c.nothing_told-told.ensures
    (subst (AreOnIn told c.args.outline.now) (sym c.deref.ensures.value) c.in_ok-on.ensures)
