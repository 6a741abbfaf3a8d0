use Rattle.std.proofs.Common.{ap, length, subst, sym, ◌∙◌}
use Rattle.std.specs.List.Sorted.{IsNonDecreasingBy}
use Rattle.pci_picture.specs.Named.{AreNamedIn, with_titles}
use Rattle.pci_picture.specs.Roots.{Listed, listed_functions}
use Rattle.pci_picture.specs.Starts.{AreStarts, FunctionsRise}
use Rattle.pci_picture.proofs.Named.{listed_back, named_back}
use Rattle.pci_picture.proofs.Starts.{as_many, rise_of_listed, rise_with_titles, starts_kept, titled_long, whole_back}
use Rattle.pci_picture.proofs.board.Board.read.Goals as goal

pub give_titles-requires : goal.give_titles-requires
give_titles-requires g c =
    subst (λ l. IsNonDecreasingBy (λ (function : Listed). function.slot) (listed_functions l)) (sym c.deref_mut.ensures.value) c.in_ok-functions.ensures.sorted

pub invariant_of-result : goal.invariant_of-result
invariant_of-result g c =
    let read = c.in_ok-functions.functions in
    let titles = c.args.texts.now.titles.now in
    let titled = c.give_titles.new.functions in
    let named = c.names_of.new.functions in
    let told = c.give_titles.ensures ∙ ap (λ l. with_titles titles (listed_functions l)) c.deref_mut.ensures.value in
    let many = titled_long titles read.items titled told in
    let first = whole_back read.len read.items titled read.ok.0 many in
    let same = c.in_ok-names.ensures.same ∙ ap listed_functions (c.deref_mut-2.ensures.value ∙ first) in
    let second = whole_back read.len _ named (read.ok.0 ∙ sym many ∙ ap length (sym first)) (as_many named titled same ∙ ap length (sym first)) in
    record {
      sorted = subst FunctionsRise (sym second) (rise_of_listed named
          (subst (IsNonDecreasingBy (λ (f : Listed). f.slot)) (sym (same ∙ told)) (rise_with_titles titles (listed_functions read.items) c.in_ok-functions.ensures.sorted)));
      begins = subst (λ l. AreStarts l c.starts_of-starts.result) (sym second)
          (starts_kept titled named c.starts_of-starts.result same (subst (λ l. AreStarts l c.starts_of-starts.result) (c.deref.ensures.value ∙ first) c.starts_of-starts.ensures));
      named =
          subst (AreNamedIn c.in_ok-names.names.bytes.items)
          (sym (named_back titles read.items c.deref_mut.result.now titled c.deref_mut-2.result.now named read.len read.ok.0 c.deref_mut.ensures.value
          c.give_titles.ensures c.deref_mut-2.ensures.value c.in_ok-names.ensures.same)) c.in_ok-names.ensures.named;
    }

pub returns-clause-show : goal.returns-clause-show
returns-clause-show g c = record {
  listed = listed_functions c.in_ok-functions.functions.items;
  are_listed = c.in_ok-functions.ensures;
  titled =
      listed_back c.args.texts.now.titles.now c.in_ok-functions.functions.items c.deref_mut.result.now c.give_titles.new.functions c.deref_mut-2.result.now
      c.names_of.new.functions c.in_ok-functions.functions.len c.in_ok-functions.functions.ok.0 c.deref_mut.ensures.value c.give_titles.ensures
      c.deref_mut-2.ensures.value c.in_ok-names.ensures.same;
}
