use Rattle.std.proofs.Common.{◌≡◌, ℕ, ◌+◌, ◌<◌, ◌++◌, [], ◌∷◌, List, map, length, get_or, take, arith, sym, ◌∙◌, ap}
use Rattle.std.specs.List.{flat_map}
use Rattle.std.proofs.lemmas.List.{append_assoc, take_all}
use Rattle.pci_spec.specs.Text.{Block}
use Rattle.pci_spec.specs.Machine.{Write}
use Rattle.plan_spec.specs.Planning.PlanWrites.{Change, closing_writes, registers_of, opening_of, register_writes, opening_writes}
use Rattle.pci_plan.specs.Writes.{write_value, block_change, block_changes}
use Rattle.pci_plan.proofs.WriteLists.{length_changes, changes_more, flat_map_more, closing_same}
use Rattle.pci_plan.proofs.writes.writes_between.Goals as goal

-- what a list of writes has after one block more
more : (f : Change → List Write) (before : List Write) (olds news : List Block) (same : length news ≡ length olds) (i : ℕ) (o n : Block) (less : i < length olds) (old_is : o ≡ get_or olds i o) (new_is : n ≡ get_or news i n)
    → (before ++ flat_map f (take i (block_changes olds news))) ++ f (block_change o n) ≡ before ++ flat_map f (take (i + 1) (block_changes olds news))
more f before olds news same i o n less old_is new_is =
    let cs : List Change = take i (block_changes olds news) in
    append_assoc before (flat_map f cs) (f (block_change o n))
    ∙ ap (λ ws. before ++ ws) (sym (flat_map_more f cs (block_change o n)))
    ∙ ap (λ (x : Block). before ++ flat_map f (cs ++ block_change x n ∷ [])) old_is
    ∙ ap (λ (x : Block). before ++ flat_map f (cs ++ block_change (get_or olds i o) x ∷ [])) new_is
    ∙ ap (λ xs. before ++ flat_map f xs) (sym (changes_more olds news same i o n less))

pub loop-i-preserved : goal.loop-i-preserved
loop-i-preserved g c =
    c.in_ok-add_registers.ensures
    ∙ ap (λ ws. ws ++ registers_of (block_change c.index-start-i.result c.index-planned-i.result)) c.loop-i.invariant
    ∙ more registers_of (map write_value c.add_closing.new.writes.items) c.args.start.now c.args.planned.now c.requires c.loop-i.i c.index-start-i.result c.index-planned-i.result c.loop-i-test.true c.index-start-i.is c.index-planned-i.is

pub loop-i-2-preserved : goal.loop-i-2-preserved
loop-i-2-preserved g c =
    c.in_ok-add_opening.ensures
    ∙ ap (λ ws. ws ++ opening_of (block_change c.index-start-i-in-loop-i-2.result c.index-planned-i-in-loop-i-2.result)) c.loop-i-2.invariant
    ∙ more opening_of (map write_value c.loop-i.writes.items) c.args.start.now c.args.planned.now c.requires c.loop-i-2.i c.index-start-i-in-loop-i-2.result c.index-planned-i-in-loop-i-2.result c.loop-i-2-test.true c.index-start-i-in-loop-i-2.is c.index-planned-i-in-loop-i-2.is

pub returns : goal.returns
returns g c =
    let start : List Block = c.args.start.now in
    let planned : List Block = c.args.planned.now in
    let all : List Change = block_changes start planned in
    let count = length_changes start planned c.requires in
    let first : take c.loop-i.i all ≡ all = take_all c.loop-i.i all (omega (arith, count)) in
    let second : take c.loop-i-2.i all ≡ all = take_all c.loop-i-2.i all (omega (arith, count)) in
    c.loop-i-2.invariant
    ∙ ap (λ ws. ws ++ flat_map opening_of (take c.loop-i-2.i all)) c.loop-i.invariant
    ∙ ap (λ ws. (ws ++ flat_map registers_of (take c.loop-i.i all)) ++ flat_map opening_of (take c.loop-i-2.i all)) (c.in_ok-add_closing.ensures ∙ ap (λ ws. map write_value ws ++ closing_writes (block_changes start start)) c.in-Ok.ensures.items)
    ∙ ap (λ xs. (closing_writes (block_changes start start) ++ flat_map registers_of xs) ++ flat_map opening_of (take c.loop-i-2.i all)) first
    ∙ ap (λ xs. (closing_writes (block_changes start start) ++ register_writes all) ++ flat_map opening_of xs) second
    ∙ ap (λ ws. (ws ++ register_writes all) ++ opening_writes all) (closing_same start planned c.requires)
    ∙ append_assoc (closing_writes all) (register_writes all) (opening_writes all)
