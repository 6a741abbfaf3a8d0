use Rattle.std.proofs.Common.{subst}
use Rattle.std.specs.Prelude.{MatchOption}
use Rattle.pciplan_cli.specs.OptionWords.{AreRootsOf, HasNoRoots}
use Rattle.pciplan_cli.proofs.beside.beside_of.Goals as goal

pub returns : goal.returns
returns c = record {
  are_roots = subst (λ o. MatchOption o (HasNoRoots c.args.root) (AreRootsOf c.args.root)) c.in_ok-roots.ensures.ok_part c.roots_of.ensures;
  are_words = c.in_ok-words.ensures;
  io = c.in_ok-ranges_of.ensures;
  mem = c.in_ok-ranges_of-2.ensures;
  also = c.nothing.ensures;
}
