use Rattle.std.proofs.Common.{ℕ, List, refl, ◌≡◌, ◌+◌, ◌<◌, length, arith, slice_index, set, ap, sym, ◌∙◌, inl, inr, rules, get_or-set_same, get_or-set_other, length-set}
use Rattle.std.proofs.lemmas.Bool.{cases_eq}
use Rattle.std.proofs.lemmas.List.FromFn.{fill_by_all}
use Rattle.pci_spec.specs.Number.{byte_at}
use Rattle.pci_spec.specs.Slot.{Slot}
use Rattle.pci_spec.specs.Machine.{Target, written, written_byte}
use Rattle.pci_machine.proofs.Writes.{written_byte-none, written_byte-above, written_byte-more, written_byte-made}
use Rattle.pci_machine.proofs.registers.write_bytes.Goals as goal

-- the function that the bytes are those of, at any slot
abbrev at : Slot → List ℕ → List ℕ → List ℕ → Target
at slot image writable clearing = record { slot = slot; image = image; writable = writable; clearing = clearing }

pub loop-j-init : goal.loop-j-init
loop-j-init c = record {
  full = search rules;
  so_far = λ slot place h. sym (written_byte-none (at slot c.args.bytes.now c.args.writable.now c.args.clearing.now) c.args.off c.args.value place);
}

pub loop-j-preserved : goal.loop-j-preserved
loop-j-preserved c =
    let same : c.from-place.result ≡ c.args.off + c.loop-j.j = c.from-place.ensures in
    record {
      full = search (rules, length-set);
      so_far = λ slot place h.
          let t = at slot c.args.bytes.now c.args.writable.now c.args.clearing.now in
          elim (cases_eq place c.from-place.result) [
            | inl here ↦
                let within : c.from-place.result < length c.loop-j.bytes = omega (arith, c.loop-j.invariant.full) in
                let spot = c.from-place.result in
                let before : slice_index c.loop-j.bytes spot ≡ byte_at t.image spot =
                c.loop-j.invariant.so_far slot spot (omega arith) ∙ written_byte-above t c.args.off c.loop-j.j c.args.value spot (omega arith) in
                ap (λ k. slice_index (set c.loop-j.bytes spot c.written_byte.result) k) here
                ∙ get_or-set_same c.loop-j.bytes spot c.written_byte.result 0 within
                ∙ written_byte-made t c.args.off c.loop-j.j c.args.value spot _ _ _ _ _ same refl refl before
                c.byte_of-datum.ensures c.written_byte.ensures
                ∙ ap (λ k. written_byte t c.args.off (c.loop-j.j + 1) c.args.value k) (sym here)
            | inr other ↦ get_or-set_other c.loop-j.bytes c.from-place.result place c.written_byte.result 0 other ∙ c.loop-j.invariant.so_far slot place h
                ∙ sym (written_byte-more t c.args.off c.loop-j.j c.args.value place (λ e. other (e ∙ sym same)))
          ];
    }

pub returns : goal.returns
unfolding written
returns c slot =
    let t = at slot c.args.bytes.now c.args.writable.now c.args.clearing.now in
    let same : c.loop-j.j ≡ c.args.width = omega arith in
    fill_by_all (written_byte t c.args.off c.args.width c.args.value) c.loop-j.bytes 256 0 c.loop-j.invariant.full
    (λ place h. c.loop-j.invariant.so_far slot place h ∙ ap (λ n. written_byte t c.args.off n c.args.value place) same)
