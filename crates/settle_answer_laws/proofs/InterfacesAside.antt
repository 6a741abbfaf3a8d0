-- What is left aside first leaves two functions that differ in the interface at most as such.
use Rattle.std.proofs.Common.{◌≡◌, ℕ, ◌<◌, Bool, true, false, is_some, inl, inr, refl, sym, ◌∙◌, ap, subst, arith, length, set}
use Rattle.std.specs.Bool.{if◌then◌else◌}
use Rattle.std.proofs.lemmas.Bool.{both_ways, cases_eq, cond_both}
use Rattle.std.proofs.lemmas.List.{get_or-set_same, get_or-set_other, length-set}
use Rattle.pci_spec.specs.Number.{IsImage, byte_at}
use Rattle.pci_spec.specs.Registers.{ISA_ENABLE, VGA_ENABLE}
use Rattle.pci_spec.specs.Fault.{controls_bridge}
use Rattle.pci_spec.specs.System.{Function, System}
use Rattle.judge_spec.specs.Words.{is_alone, isa_aside, snoop_aside, unclaimed_aside, vga_aside}
use Rattle.judge_spec.specs.ModelWords.{Words}
use Rattle.judge_spec.specs.Taken.{IsAsleepBy, first_aside, isa_aside_by, snoop_aside_by, vga_aside_by, windows_aside}
use Rattle.settle_answer_laws.proofs.Interfaces.{IsButInterface, asleep_but, control_but}
use Rattle.settle_answer_laws.proofs.SetAside.{no_isa, no_snoop, no_vga}
use Rattle.settle_answer_laws.proofs.TakenAlong.{AreWindowsShown, aside_is}
use Rattle.settle_answer_laws.proofs.WordsAfter.{alone_aside}

-- two such functions of 256 bytes
pub record AreBut (x y : Function) : Type 0 where
  pub but : IsButInterface x y
  pub left : length x.image ≡ 256
  pub right : length y.image ≡ 256

where_but : (x y u v : Function) (p r : Bool) → r ≡ p → AreBut x y → AreBut u v → AreBut (if p then u else x) (if r then v else y)
where_but x y u v true true e are both = both
where_but x y u v false false e are both = are
where_but x y u v true false e are both = absurd (both_ways false refl e)
where_but x y u v false true e are both = absurd (both_ways true e refl)

set_but : (x y : Function) (place : ℕ) (v : ℕ → ℕ) → place < 256 → (place ≡ 9 → ⊥) → AreBut x y
    → AreBut (record { slot = x.slot; image = set x.image place (v (byte_at x.image place)); probe = x.probe }) (record { slot = y.slot; image = set y.image place (v (byte_at y.image place)); probe = y.probe })
set_but x y place v low away are =
    let full_x = are.left in
    let full_y = are.right in
    record {
      but = record {
        slot = are.but.slot;
        probe = are.but.probe;
        same = λ at other. elim (cases_eq at place) [
          | inl here ↦
              ap (byte_at (set y.image place (v (byte_at y.image place)))) here
              ∙ get_or-set_same y.image place (v (byte_at y.image place)) 0 (omega (arith, full_y, low))
              ∙ ap v (are.but.same place away)
              ∙ sym (get_or-set_same x.image place (v (byte_at x.image place)) 0 (omega (arith, full_x, low)))
              ∙ ap (byte_at (set x.image place (v (byte_at x.image place)))) (sym here)
          | inr off ↦
              get_or-set_other y.image place at (v (byte_at y.image place)) 0 off
              ∙ are.but.same at other
              ∙ sym (get_or-set_other x.image place at (v (byte_at x.image place)) 0 off)
        ];
      };
      left = length-set x.image place (v (byte_at x.image place)) ∙ full_x;
      right = length-set y.image place (v (byte_at y.image place)) ∙ full_y;
    }

module _ (x y : Function) (are : AreBut x y) (w : Words) where
  vga_but : AreBut (vga_aside_by w x) (vga_aside_by w y)
  vga_but = where_but x y (vga_aside x) (vga_aside y) (is_some w.vga) (is_some w.vga) refl are
      (by (controls_bridge x.image VGA_ENABLE) (controls_bridge y.image VGA_ENABLE) (control_but x y are.but VGA_ENABLE))
    where
      by : (p r : Bool) → r ≡ p → AreBut (record { slot = x.slot; image = if p then set x.image 0x3e (no_vga (byte_at x.image 0x3e)) else x.image; probe = x.probe })
          (record { slot = y.slot; image = if r then set y.image 0x3e (no_vga (byte_at y.image 0x3e)) else y.image; probe = y.probe })
      by true true e = set_but x y 0x3e no_vga (omega arith) (λ e. cc e) are
      by false false e = are
      by true false e = absurd (both_ways false refl e)
      by false true e = absurd (both_ways true e refl)

  isa_but : AreBut (isa_aside_by w x) (isa_aside_by w y)
  isa_but = where_but x y (isa_aside x) (isa_aside y) w.isa w.isa refl are
      (by (controls_bridge x.image ISA_ENABLE) (controls_bridge y.image ISA_ENABLE) (control_but x y are.but ISA_ENABLE))
    where
      by : (p r : Bool) → r ≡ p → AreBut (record { slot = x.slot; image = if p then set x.image 0x3e (no_isa (byte_at x.image 0x3e)) else x.image; probe = x.probe })
          (record { slot = y.slot; image = if r then set y.image 0x3e (no_isa (byte_at y.image 0x3e)) else y.image; probe = y.probe })
      by true true e = set_but x y 0x3e no_isa (omega arith) (λ e. cc e) are
      by false false e = are
      by true false e = absurd (both_ways false refl e)
      by false true e = absurd (both_ways true e refl)

  snoop_but : AreBut (snoop_aside_by w x) (snoop_aside_by w y)
  snoop_but = where_but x y (snoop_aside x) (snoop_aside y) w.snoop w.snoop refl are (set_but x y 4 no_snoop (omega arith) (λ e. cc e) are)

-- where no window of either is taken as the one that it shows
first_but : (x y : Function) (w : Words) → AreBut x y → AreWindowsShown w x → AreWindowsShown w y → AreBut (first_aside w x) (first_aside w y)
first_but x y w are shown shown_too =
    let a = subst (λ v. AreBut v (windows_aside w y)) (sym (aside_is w x shown)) (subst (λ v. AreBut x v) (sym (aside_is w y shown_too)) are) in
    let x1 = windows_aside w x in
    let y1 = windows_aside w y in
    let b = vga_but x1 y1 a w in
    let x2 = vga_aside_by w x1 in
    let y2 = vga_aside_by w y1 in
    let c = isa_but x2 y2 b w in
    snoop_but (isa_aside_by w x2) (isa_aside_by w y2) c w

-- a bridge that is taken as one that decodes its windows alone
aside_but : (w : Words) (s : System) (f : Function) → length f.image ≡ 256 → AreBut (alone_aside w s f) f
aside_but w s f full =
    let itself : AreBut f f = record { but = record { slot = refl; probe = refl; same = λ place other. refl }; left = full; right = full } in
    cond_both w.unclaimed (unclaimed_aside s f) f (λ (x : Function). AreBut x f)
    (λ on. cond_both (is_alone s f) (record { slot = f.slot; image = set f.image 9 0; probe = f.probe }) f (λ (x : Function). AreBut x f)
    (λ alone. record {
      but = record { slot = refl; probe = refl; same = λ place other. sym (get_or-set_other f.image 9 place 0 0 other) };
      left = length-set f.image 9 0 ∙ full;
      right = full;
    })
    (λ other. itself))
    (λ off. itself)

-- So it sleeps as it is.
pub asleep_aside : (w : Words) (s : System) (f : Function) → IsImage f.image → IsImage (first_aside w (alone_aside w s f)).image → AreWindowsShown w (alone_aside w s f) → AreWindowsShown w f
    → IsAsleepBy w (alone_aside w s f) → IsAsleepBy w f
asleep_aside w s f is is_first shown shown_too (counts, asleep) =
    let are = first_but (alone_aside w s f) f w (aside_but w s f is.full) shown shown_too in
    (counts, asleep_but (first_aside w (alone_aside w s f)) (first_aside w f) are.but is_first asleep)
