use Rattle.std.proofs.Common.{arith, refl, IsTrue, sym, ◌∙◌, subst, take, ℕ, ◌≡◌}
use Rattle.std.specs.List.{All}
use Rattle.std.proofs.lemmas.List.Elements.{All-more}
use Rattle.pci_spec.specs.Text.{is_title_byte}
use Rattle.pci_dump.proofs.parse.last_title_len.Goals as goal

pub loop-i-preserved : goal.loop-i-preserved
loop-i-preserved c = record { within = omega arith; each = All-more (λ c. IsTrue (is_title_byte c)) _ _ 0 (omega arith) c.loop-i.invariant.each (sym c.is_title.ensures ∙ c.if-not-is_title.false) }

pub returns : goal.returns
returns c =
    let e : c.loop-i.i ≡ 200 = omega arith in
    let within = c.loop-i.invariant.within in
    record {
      bound = omega (arith, e, within);
      few = omega arith;
      each = subst (λ (n : ℕ). All (λ c. IsTrue (is_title_byte c)) (take n c.args.bytes.now)) e c.loop-i.invariant.each;
      last = λ _ _. refl;
    }
