use Rattle.std.proofs.Common.{List, ℕ, Bor, map, refl, lit<, rules}
use Rattle.std.proofs.lemmas.Iterator.Consumers.{YieldsList-end}
use Rattle.std.proofs.lemmas.Iterator.Splits.{YieldsList-from_str_split}
use Rattle.std.proofs.lemmas.List.Sorted.{IsNonDecreasingBy-from_sort, answers_always}
use Rattle.pci_picture.specs.Ranks.{rank_of_badge}
use Rattle.pci_picture.specs.declared.faults.Faults.{Faults}
use Rattle.pci_picture.proofs.Badges.{badges_more, badges_whole, text_small}
use Rattle.pci_picture.proofs.Marks.{none_read, one_more, whole_text}
use Rattle.pci_picture.proofs.Namings.{namings_moved, no_namings}
use Rattle.pci_picture.proofs.ReadSaid.{faults_within, lines_more, no_lines, text_read, text_said}
use Rattle.pci_picture.proofs.faults.Faults.read.Goals as goal

pub loop-line-init : goal.loop-line-init
loop-line-init g c = record {
  named = none_read _ _ c.new-3.ensures.items;
  said = no_lines _ c.new.ensures.items c.new-2.ensures.items c.new-3.ensures.items;
  keyed = no_namings _ _ _ c.new-2.ensures.items c.new-3.ensures.items;
  shown = c.new-4.ensures.items;
}

pub loop-line-preserved : goal.loop-line-preserved
loop-line-preserved g c =
    let now = λ (x : Bor (List ℕ)). x.now in
    record {
      named =
          one_more now c.loop-line.yielded c.in-Some.line c.as_bytes.result.now c.loop-line.reader c.take.new.self
          c.as_bytes.ensures.value c.loop-line.invariant.named c.in_ok-take.ensures.adds;
      said =
          lines_more now c.loop-line.yielded c.in-Some.line c.as_bytes.result.now c.loop-line.reader c.take.new.self
          c.as_bytes.ensures.value c.loop-line.invariant.said c.in_ok-take.ensures.adds c.in_ok-take.ensures.said;
      keyed = c.in_ok-take.ensures.named c.loop-line.invariant.keyed;
      shown =
          badges_more now c.loop-line.yielded c.in-Some.line c.as_bytes.result.now c.loop-line.reader.badges.items c.take.new.self.badges.items
          c.as_bytes.ensures.value c.loop-line.invariant.shown c.in_ok-take.ensures.shows;
    }

pub returns : goal.returns
returns g c =
    let now = λ (x : Bor (List ℕ)). x.now in
    let whole =
    (YieldsList-end (YieldsList-from_str_split 10 c.args.text.now (lit< tt) (cc) (cc) (cc)) c.loop-line.yielded _ c.loop-line.yielded_by _ _ c.in-None.is c.next.ensures.steps).0 in
    let reader = c.loop-line.reader in
    let faults : Faults _ = record {
      lines = reader.lines;
      faults = reader.faults;
      namings = c.sort_by_key.new.self;
      badges = c.sort_by_key-2.new.self;
      small = text_small (map now c.loop-line.yielded) reader.badges.items _ c.loop-line.invariant.shown c.in_ok-sort_by_key-2.ensures.permutation;
      ranked =
          IsNonDecreasingBy-from_sort (λ b. rank_of_badge b) c.sort_by_key-2.new.self.items
          (c.in_ok-sort_by_key-2.ensures.sorted (λ b. rank_of_badge b) (answers_always _ _ _ (λ f a r h k. search rules)));
      sorted =
          IsNonDecreasingBy-from_sort (λ n. n.key) c.sort_by_key.new.self.items
          (c.in_ok-sort_by_key.ensures.sorted (λ n. n.key) (answers_always _ _ _ (λ f a r h k. search rules)));
      within = faults_within _ reader c.loop-line.invariant.said;
      named = namings_moved _ _ _ _ c.loop-line.invariant.keyed c.in_ok-sort_by_key.ensures.permutation;
    } in
    record {
      named =
          whole_text now c.loop-line.yielded c.args.text.now c.loop-line.reader.faults.items c.loop-line.reader.namings.items _ whole
          c.loop-line.invariant.named c.in_ok-sort_by_key.ensures.permutation;
      said =
          text_said now c.loop-line.yielded c.args.text.now reader faults whole c.loop-line.invariant.said refl refl
          (c.in_ok-sort_by_key.ensures.stable (λ n. n.key) (answers_always _ _ _ (λ f a r h k. search rules)));
      shown =
          badges_whole now c.loop-line.yielded c.args.text.now c.loop-line.reader.badges.items _ whole
          c.loop-line.invariant.shown c.in_ok-sort_by_key-2.ensures.permutation;
      lines = text_read now c.loop-line.yielded c.args.text.now reader faults whole c.loop-line.invariant.said refl refl;
    }

pub invariant_of-result : goal.invariant_of-result
invariant_of-result g c = record {
  small =
      text_small (map (λ (x : Bor (List ℕ)). x.now) c.loop-line.yielded) c.loop-line.reader.badges.items _ c.loop-line.invariant.shown
      c.in_ok-sort_by_key-2.ensures.permutation;
  ranked =
      IsNonDecreasingBy-from_sort (λ b. rank_of_badge b) c.sort_by_key-2.new.self.items
      (c.in_ok-sort_by_key-2.ensures.sorted (λ b. rank_of_badge b) (answers_always _ _ _ (λ f a r h k. search rules)));
  sorted =
      IsNonDecreasingBy-from_sort (λ n. n.key) c.sort_by_key.new.self.items
      (c.in_ok-sort_by_key.ensures.sorted (λ n. n.key) (answers_always _ _ _ (λ f a r h k. search rules)));
  within = faults_within _ c.loop-line.reader c.loop-line.invariant.said;
  named = namings_moved _ _ _ _ c.loop-line.invariant.keyed c.in_ok-sort_by_key.ensures.permutation;
}
