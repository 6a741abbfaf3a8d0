use Rattle.std.proofs.Common.{ℕ, List, ◌++◌, map, Bor, sym, ◌∙◌, ap, subst, rules, arith}
use denote.Shadow.{shadow}
use denote.Text.{Utf8}
use Rattle.std.specs.Prelude.{codes}
use Rattle.std.proofs.lemmas.Bool.{iff_false}
use Rattle.std.specs.String.{string_bytes}
use Rattle.pci_spec.specs.Text.{hex_byte}
use Rattle.pci_tree.specs.Roots.{buses_of}
use Rattle.pci_here.specs.Words.{option_text}
use Rattle.pci_here.proofs.Options.{roots_all, roots_none, root_set, root_unset, root_more, root_same, word_none}
use Rattle.pci_here.proofs.words.add_roots.Goals as goal
use Rattle.pci_here.proofs.words.add_roots.Goals.{then-has+in_ok-add_bus, else-has}

pub loop-bus-init : goal.loop-bus-init
loop-bus-init c = (search rules, ap (λ buses. string_bytes c.args.text.now ++ option_text (codes "--root ") (map hex_byte buses)) (roots_all c.args.roots.now.flags))

pub loop-bus-preserved : goal.loop-bus-preserved
loop-bus-preserved c =
    let whole : List ℕ = string_bytes c.args.text.now ++ option_text (codes "--root ") (map hex_byte (buses_of c.args.roots.now)) in
    elim c.if-has.branch [
      | then-has+in_ok-add_bus w ↦ (
        subst (λ (b : Bor (List ℕ)). shadow (Utf8 b.now)) (sym w.before-is) (search rules),
        root_more c.args.roots.now.flags c.loop-bus.bus (string_bytes c.loop-bus.text) (string_bytes c.if-has.text) c.loop-bus.before.now c.if-has.before.now whole
            c.loop-bus-test.true (root_set c.args.roots.now c.loop-bus.bus (c.has.ensures.0 w.if-has.true)) (ap string_bytes w.text-is ∙ w.in_ok-add_bus.ensures)
            (ap (λ (b : Bor (List ℕ)). b.now) w.before-is) c.loop-bus.invariant.1,
      )
      | else-has w ↦ (
        subst (λ (b : Bor (List ℕ)). shadow (Utf8 b.now)) (sym w.before-is) c.loop-bus.invariant.0,
        root_same c.args.roots.now.flags c.loop-bus.bus (string_bytes c.loop-bus.text) (string_bytes c.if-has.text) c.loop-bus.before.now c.if-has.before.now whole
            c.loop-bus-test.true (root_unset c.args.roots.now c.loop-bus.bus c.loop-bus-test.true (λ has. iff_false c.has.ensures w.if-has.false has)) (ap string_bytes w.text-is)
            (ap (λ (b : Bor (List ℕ)). b.now) w.before-is) c.loop-bus.invariant.1,
      )
    ]

pub returns : goal.returns
returns c =
    word_none (string_bytes c.loop-bus.text) c.loop-bus.before.now (string_bytes c.args.text.now ++ option_text (codes "--root ") (map hex_byte (buses_of c.args.roots.now)))
    _ (roots_none c.args.roots.now.flags c.loop-bus.bus (omega (arith, c.loop-bus.auto.bus-end, c.loop-bus-test.false))) c.loop-bus.invariant.1
