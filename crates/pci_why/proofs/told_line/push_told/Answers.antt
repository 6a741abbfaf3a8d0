use Rattle.std.proofs.Common.{◌≡◌, ◌≤◌, ◌++◌, List, ℕ, subst, sym}
use Rattle.std.specs.Prelude.{IsTrue}
use Rattle.std.specs.List.{All}
use Rattle.std.specs.String.{string_bytes}
use Rattle.std.proofs.lemmas.Result.{on_ok_weaker}
use Rattle.pci_spec.specs.Text.{slot_text}
use Rattle.pci_spec.specs.Listing.{words}
use Rattle.pci_spec.specs.Why.{space_words, extent_words}
use Rattle.judge_spec.specs.Told.{ToldRange, is_name_byte}
use Rattle.judge_spec.specs.ToldLine.{register_text}
use Rattle.judge_spec.specs.ToldRegion.{mark_word, told_extent, told_words}
use Rattle.pci_base.specs.Space.{space_of}
use Rattle.pci_dump.specs.ToldMarks.{mark_of}
use Rattle.pci_why.proofs.ToldTexts.{told_pushed}
use Rattle.pci_why.proofs.told_line.push_told.Goals as goal

pub push_extent-requires : goal.push_extent-requires
push_extent-requires g c = subst (λ (x : ToldRange). x.first ≤ x.last) (sym c.range.view_is) c.requires.forward

pub push_name-requires : goal.push_name-requires
push_name-requires g c =
    subst (λ (name : List ℕ). All (λ b. IsTrue (is_name_byte b)) name) (sym c.as_slice.ensures.value) (subst (λ (x : ToldRange). All (λ b. IsTrue (is_name_byte b)) x.name) (sym c.range.view_is) c.requires.line.name.1)

pub returns : goal.returns
returns g c =
    let range = c.range.inside in
    let r : ToldRange = record {
      slot = range.slot;
      space = space_of range.space;
      prefetchable = range.prefetchable;
      first = range.first;
      last = range.last;
      mark = mark_of range.mark;
      name = range.name.items;
    } in
    on_ok_weaker c.end_line.result
    (λ last. subst (λ (x : ToldRange). string_bytes c.end_line.new.text ≡ string_bytes c.args.text.now ++ words (told_words (record { register = c.args.register; told = x }))) c.range.view_is
    (told_pushed (string_bytes c.args.text.now) (string_bytes c.push_str.new.self) (string_bytes c.push_slot.new.text) (string_bytes c.push_str-2.new.self) (string_bytes c.push_register.new.text)
    (string_bytes c.push_str-3.new.self) (string_bytes c.push_str-4.new.self) (string_bytes c.push_str-5.new.self) (string_bytes c.push_str-6.new.self) (string_bytes c.push_extent.new.text) (string_bytes c.push_name.new.text)
    (string_bytes c.end_line.new.text) (slot_text r.slot) (register_text c.args.register) c.mark_name.result.now (mark_word r.mark) c.space_name.result.now (space_words r.space r.prefetchable)
    (extent_words r.space (told_extent r)) c.as_slice.result.now r.name
    c.in_ok-push_str.ensures.bytes c.in_ok-push_slot.ensures c.in_ok-push_str-2.ensures.bytes c.in_ok-push_register.ensures c.in_ok-push_str-3.ensures.bytes c.in_ok-push_str-4.ensures.bytes c.in_ok-push_str-5.ensures.bytes
    c.in_ok-push_str-6.ensures.bytes c.in_ok-push_extent.ensures c.in_ok-push_name.ensures last c.mark_name.ensures c.space_name.ensures c.as_slice.ensures.value))
    c.end_line.ensures
