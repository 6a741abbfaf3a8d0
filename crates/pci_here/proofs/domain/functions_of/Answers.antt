use Rattle.std.proofs.Common.{◌≤◌, ◌+◌, ◌∷◌, [], ◌++◌, length, take, drop, refl, sym, ◌∙◌, ap, subst, arith}
use Rattle.std.specs.List.{All}
use Rattle.std.proofs.lemmas.List.{take_more, take_all}
use Rattle.std.proofs.lemmas.List.Elements.{All-nil}
use Rattle.pci_here.specs.Functions.{IsFunctionReadable}
use Rattle.pci_here.specs.Taken.{AreFunctionsTaken}
use Rattle.pci_here.proofs.Read.{shown_all, shown_then, shown_three, parts_at, readable_more}
use Rattle.pci_here.proofs.Takes.{none_taken}
use Rattle.pci_here.proofs.Wholes.{shown_both}
use Rattle.pci_here.proofs.domain.functions_of.Goals as goal

pub loop-place-init : goal.loop-place-init
loop-place-init g c = record {
  few = omega (arith, c.none-functions.ensures.left_out);
  taken = shown_all (g.M.Machine.shown c.args.machine.now) _ (λ m. none_taken m c.none-functions.result c.none-functions.ensures);
  read = shown_all (g.M.Machine.shown c.args.machine.now) _ (λ m. All-nil (IsFunctionReadable m));
}

pub loop-place-preserved : goal.loop-place-preserved
loop-place-preserved g c = record {
  few = omega (arith, c.in-Ok.ensures.few, c.loop-place.invariant.few);
  taken = shown_both (g.M.Machine.shown c.args.machine.now) _ _ _
      (λ m was step. subst (λ places. AreFunctionsTaken m places c.take.new.self)
      (ap (λ p. take c.loop-place.place-index c.args.places.now ++ p ∷ []) c.place-item.is ∙ sym (take_more c.args.places.now c.loop-place.place-index c.place-item.result c.loop-place-test.true))
      (step (take c.loop-place.place-index c.args.places.now) was))
      c.loop-place.invariant.taken c.in-Ok.ensures.taken;
  read = shown_both (g.M.Machine.shown c.args.machine.now) _ _ _
      (λ m was here. readable_more m c.args.places.now c.loop-place.place-index c.place-item.result c.loop-place-test.true (sym c.place-item.is) here was)
      c.loop-place.invariant.read c.in-Ok.ensures.read;
}

pub returns-clause-read : goal.returns-clause-read
returns-clause-read g c =
    let all : length c.args.places.now ≤ c.loop-place.place-index = omega arith in
    shown_then (g.M.Machine.shown c.args.machine.now) _ _
    (λ m read. subst (λ places. All (IsFunctionReadable m) places) (take_all c.loop-place.place-index c.args.places.now all) read) c.loop-place.invariant.read

pub returns-in-Err-clause-err : goal.returns-in-Err-clause-err
returns-in-Err-clause-err g c =
    shown_three (g.M.Machine.shown c.args.machine.now) _ _ _ _ (λ m taken read why. record {
      before = take c.loop-place.place-index c.args.places.now;
      place = c.place-item.result;
      behind = drop (c.loop-place.place-index + 1) c.args.places.now;
      parts = parts_at c.args.places.now c.loop-place.place-index c.place-item.result c.loop-place-test.true (sym c.place-item.is);
      is_place = refl;
      not_taken = why (take c.loop-place.place-index c.args.places.now) taken;
      others = read;
    }) c.loop-place.invariant.taken c.loop-place.invariant.read c.in-Err.ensures.err
