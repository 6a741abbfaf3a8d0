use Rattle.std.proofs.Common.{ap, sym, ◌∙◌, arith, map, subst, rules}
use Rattle.std.specs.List.{All}
use Rattle.std.specs.List.Sorted.{IsPermutation}
use Rattle.std.specs.Ordering.{bool_cmp, nat_cmp, ordering_then}
use Rattle.std.proofs.lemmas.Grind.{common_steps}
use Rattle.std.proofs.lemmas.List.{take_all}
use Rattle.std.proofs.lemmas.List.Elements.{All-push}
use Rattle.std.proofs.lemmas.List.Sorted.{All-permutation, IsPermutation-map, answers_always}
use Rattle.pci_picture.specs.Maps.{headed_line, headed_member, rank_of, regions_under}
use Rattle.pci_picture.specs.Roots.{IsLostByRoot, listed_functions}
use Rattle.pci_picture.proofs.Chained.{indented_members}
use Rattle.pci_picture.proofs.Lost.{section_if_lost, section_told}
use Rattle.pci_picture.proofs.Members.{sorted_by_first}
use Rattle.pci_picture.proofs.Sections.{sorted_members}
use Rattle.pci_picture.proofs.Tops.{sorted_members_of}
use Rattle.pci_picture.proofs.picture.members.Goals as goal

pub loop-line-preserved : goal.loop-line-preserved
loop-line-preserved g c =
    let functions = listed_functions c.args.board.now.functions.items in
    let line = c.line-item.result in
    record {
      moved = grind (arith, common_steps);
      seated = grind (arith, common_steps);
      by_root =
          subst (All (IsLostByRoot functions)) (sym c.in_ok-push.ensures.items)
          (All-push (IsLostByRoot functions) c.loop-line.members.items _ c.loop-line.invariant.by_root
          (section_if_lost line.section c.section_number.result c.unwrap_or-section.result _ c.is_none.result c.is_none.ensures c.unwrap_or-section.ensures
          (section_told functions c.roots-roots.result line.region.line.now line.region.key line.region.digits c.slot_of.result c.bus_of.result c.section_number.result
          c.roots-roots.ensures line.region.is_of_line c.slot_of.ensures c.bus_of.ensures c.bus_of.type_inv c.section_number.ensures)));
    }

pub returns : goal.returns
returns g c =
    let lines = c.args.board.now.map.lines.items in
    let all = take_all c.loop-line.line-index lines (omega arith) in
    let heads = c.loop-line.invariant.seated ∙ ap (map headed_line) all in
    let moved = c.in_ok-sort_by_key.ensures.permutation in
    let stable = c.in_ok-sort_by_key.ensures.stable (λ m. (m.section, m.is_lost, rank_of m)) (answers_always _ _ _ (λ f a r h k. search rules)) in
    let sorted = c.in_ok-sort_by_key.ensures.sorted (λ m. (m.section, m.is_lost, rank_of m)) (answers_always _ _ _ (λ f a r h k. search rules)) in
    record {
      moved = record {
        moved =
            sorted_members lines c.loop-line.members.items c.sort_by_key.new.self.items
            (c.loop-line.invariant.moved ∙ ap regions_under all) c.in_ok-sort_by_key.ensures.permutation;
        seated =
            subst (λ l. IsPermutation l (map headed_member c.sort_by_key.new.self.items))
            heads
            (IsPermutation-map headed_member c.loop-line.members.items c.sort_by_key.new.self.items c.in_ok-sort_by_key.ensures.permutation);
        sorted =
            sorted_by_first (λ m. m.section) (λ x y. bool_cmp x.is_lost y.is_lost)
            (λ x y. ordering_then (nat_cmp ((rank_of x).0) ((rank_of y).0)) (nat_cmp ((rank_of x).1) ((rank_of y).1)))
            c.sort_by_key.new.self.items sorted;
      };
      indented = indented_members lines c.loop-line.members.items c.sort_by_key.new.self.items c.requires heads moved sorted stable;
      sorted = sorted_members_of lines c.loop-line.members.items c.sort_by_key.new.self.items heads moved sorted stable;
      by_root = All-permutation (IsLostByRoot (listed_functions c.args.board.now.functions.items)) c.loop-line.members.items c.sort_by_key.new.self.items c.in_ok-sort_by_key.ensures.permutation c.loop-line.invariant.by_root;
    }
