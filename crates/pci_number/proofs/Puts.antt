-- What puts leave, one after the other.
use Rattle.std.proofs.Common.{◌≡◌, ℕ, inl, inr, refl, sym, ◌∙◌, set}
use Rattle.pci_spec.specs.Slot.{Slot}
use Rattle.pci_number.specs.Board.{Board}
use Rattle.pci_number.specs.Access.{IsByteRead, IsByteWritten}
use Rattle.pci_number.specs.Steps.{IsNumberPut, IsTouched, IsLeftAt, IsShownAt}
use Rattle.pci_number.proofs.Here.{read_here, write_here}
use Rattle.pci_number.proofs.Bytes.{other_byte, alike_primary, alike_secondary, alike_subordinate, alike_then, shows_from}

pub untouched : (before after : Board) (slot : Slot) (offset : ℕ) → after ≡ before → IsTouched before slot offset after
untouched before after slot offset same = λ v high last image behind others is seen last_there. (image, same ∙ is, inl refl)

pub put_already : (before after : Board) (slot : Slot) (offset value number : ℕ) → IsByteRead before slot offset value → value ≡ number → after ≡ before → IsNumberPut before slot offset number after
put_already before after slot offset value number read equal same = λ v high last image behind others is seen alone.
    (image, same ∙ is, inl refl, sym (read_here v high last slot seen before image behind others is alone offset value read) ∙ equal)

pub touched : (before written after : Board) (slot : Slot) (offset : ℕ) → IsByteWritten before slot offset written → after ≡ written → IsTouched before slot offset after
touched before written after slot offset write same = λ v high last image behind others is seen alone.
    let w = write_here v high last slot seen before image behind others is alone offset written write in
    (set image offset w.0, same ∙ w.1, inr (w.0, refl))

pub put_new : (before written after : Board) (slot : Slot) (offset value number : ℕ) → IsByteWritten before slot offset written → IsByteRead written slot offset value → value ≡ number → after ≡ written → IsNumberPut before slot offset number after
put_new before written after slot offset value number write read equal same = λ v high last image behind others is seen alone.
    let w = write_here v high last slot seen before image behind others is alone offset written write in
    (set image offset w.0, same ∙ w.1, inr (w.0, refl), sym (read_here v high last slot seen written (set image offset w.0) behind others w.1 alone offset value read) ∙ equal)

-- ---- a bridge is closed: subordinate, secondary, primary

pub left_first : (before after : Board) (slot : Slot) → IsTouched before slot 0x1a after → IsLeftAt before slot after
left_first before after slot t = λ v high last image behind others is seen alone.
    let a = t v high last image behind others is seen alone in
    (a.0, a.1, alike_subordinate image a.0 a.2)

pub left_second : (before first after : Board) (slot : Slot) → IsNumberPut before slot 0x1a 0 first → IsTouched first slot 0x19 after → IsLeftAt before slot after
left_second before first after slot p t = λ v high last image behind others is seen alone.
    let a = p v high last image behind others is seen alone in
    let b = t v high last a.0 behind others a.1 seen alone in
    (b.0, b.1, alike_then image a.0 b.0 (alike_subordinate image a.0 a.2) (alike_secondary a.0 b.0 b.2))

pub left_third : (before first second after : Board) (slot : Slot) → IsNumberPut before slot 0x1a 0 first → IsNumberPut first slot 0x19 0 second → IsTouched second slot 0x18 after → IsLeftAt before slot after
left_third before first second after slot p q t = λ v high last image behind others is seen alone.
    let a = p v high last image behind others is seen alone in
    let b = q v high last a.0 behind others a.1 seen alone in
    let d = t v high last b.0 behind others b.1 seen alone in
    (d.0, d.1, alike_then image a.0 d.0 (alike_subordinate image a.0 a.2) (alike_then a.0 b.0 d.0 (alike_secondary a.0 b.0 b.2) (alike_primary b.0 d.0 d.2)))

pub closed_at : (before first second after : Board) (slot : Slot) → IsNumberPut before slot 0x1a 0 first → IsNumberPut first slot 0x19 0 second → IsNumberPut second slot 0x18 0 after → IsShownAt before slot 0 0 0 after
closed_at before first second after slot p q r = λ v high last image behind others is seen alone.
    let a = p v high last image behind others is seen alone in
    let b = q v high last a.0 behind others a.1 seen alone in
    let d = r v high last b.0 behind others b.1 seen alone in (
      d.0,
      d.1,
      alike_then image a.0 d.0 (alike_subordinate image a.0 a.2) (alike_then a.0 b.0 d.0 (alike_secondary a.0 b.0 b.2) (alike_primary b.0 d.0 d.2)),
      shows_from d.0 0 0 0 d.3 (other_byte 0x18 b.0 d.0 d.2 0x19 (λ e. cc e) ∙ b.3) (other_byte 0x18 b.0 d.0 d.2 0x1a (λ e. cc e) ∙ other_byte 0x19 a.0 b.0 b.2 0x1a (λ e. cc e) ∙ a.3),
    )

-- ---- a bridge is shown a bus: primary, secondary, subordinate

pub show_first : (before after : Board) (slot : Slot) → IsTouched before slot 0x18 after → IsLeftAt before slot after
show_first before after slot t = λ v high last image behind others is seen alone.
    let a = t v high last image behind others is seen alone in
    (a.0, a.1, alike_primary image a.0 a.2)

pub show_second : (before first after : Board) (slot : Slot) (n : ℕ) → IsNumberPut before slot 0x18 n first → IsTouched first slot 0x19 after → IsLeftAt before slot after
show_second before first after slot n p t = λ v high last image behind others is seen alone.
    let a = p v high last image behind others is seen alone in
    let b = t v high last a.0 behind others a.1 seen alone in
    (b.0, b.1, alike_then image a.0 b.0 (alike_primary image a.0 a.2) (alike_secondary a.0 b.0 b.2))

pub show_third : (before first second after : Board) (slot : Slot) (n m : ℕ) → IsNumberPut before slot 0x18 n first → IsNumberPut first slot 0x19 m second → IsTouched second slot 0x1a after → IsLeftAt before slot after
show_third before first second after slot n m p q t = λ v high last image behind others is seen alone.
    let a = p v high last image behind others is seen alone in
    let b = q v high last a.0 behind others a.1 seen alone in
    let d = t v high last b.0 behind others b.1 seen alone in
    (d.0, d.1, alike_then image a.0 d.0 (alike_primary image a.0 a.2) (alike_then a.0 b.0 d.0 (alike_secondary a.0 b.0 b.2) (alike_subordinate b.0 d.0 d.2)))

pub shown_at : (before first second after : Board) (slot : Slot) (n m u : ℕ) → IsNumberPut before slot 0x18 n first → IsNumberPut first slot 0x19 m second → IsNumberPut second slot 0x1a u after → IsShownAt before slot n m u after
shown_at before first second after slot n m u p q r = λ v high last image behind others is seen alone.
    let a = p v high last image behind others is seen alone in
    let b = q v high last a.0 behind others a.1 seen alone in
    let d = r v high last b.0 behind others b.1 seen alone in (
      d.0,
      d.1,
      alike_then image a.0 d.0 (alike_primary image a.0 a.2) (alike_then a.0 b.0 d.0 (alike_secondary a.0 b.0 b.2) (alike_subordinate b.0 d.0 d.2)),
      shows_from d.0 n m u (other_byte 0x1a b.0 d.0 d.2 0x18 (λ e. cc e) ∙ other_byte 0x19 a.0 b.0 b.2 0x18 (λ e. cc e) ∙ a.3) (other_byte 0x1a b.0 d.0 d.2 0x19 (λ e. cc e) ∙ b.3) d.3,
    )
