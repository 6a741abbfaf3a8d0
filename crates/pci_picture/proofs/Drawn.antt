-- What is drawn is content.
use Rattle.std.proofs.Common.{ℕ, List, [], ◌∷◌, ◌<◌, ◌^◌, refl, subst, codes}
use Rattle.std.specs.Fmt.{decimal}
use Rattle.pci_picture.specs.Xml.{is_unquoted, AreCharacters, no_character, character, AreAttributes, no_attribute, attribute, empty_element, IsXmlName, IsContent, one_empty, nothing}
use Rattle.pci_picture.specs.Elements.{escaped, number_attribute, text_attribute, frame_attributes, rect_attributes, place_attributes, title_element, box_text, words_text, faint_text, axis_words, axis_text, path_value, tick_text, gap_text}
use Rattle.std.proofs.lemmas.List.{append-nil}
use Rattle.pci_picture.proofs.Contents.{characters_append, attributes_append, content_append, content_of, element_content, attribute_lawful}
use Rattle.pci_picture.proofs.Escapes.{plain_characters, escaped_characters, decimal_characters}

escaped_content : (bytes : List ℕ) → IsContent (escaped bytes)
escaped_content bytes = content_of (escaped bytes) (plain_characters (escaped bytes) (escaped_characters bytes))

pub feed : IsContent (10 ∷ [])
feed = content_of (10 ∷ []) (character 10 [] refl no_character)

pub number_lawful : (name : List ℕ) (n : ℕ) → IsXmlName name → n < 2 ^ 64 → AreAttributes (number_attribute name n)
unfolding number_attribute
number_lawful name n named small = attribute_lawful name (decimal n) named (decimal_characters n small)

text_lawful : (name bytes : List ℕ) → IsXmlName name → AreAttributes (text_attribute name bytes)
unfolding text_attribute
text_lawful name [] named = no_attribute
text_lawful name (b ∷ bytes) named = attribute_lawful name (escaped (b ∷ bytes)) named (escaped_characters (b ∷ bytes))

frame_lawful : (x y width height : ℕ) → x < 2 ^ 64 → y < 2 ^ 64 → width < 2 ^ 64 → height < 2 ^ 64
    → AreAttributes (frame_attributes x y width height)
unfolding frame_attributes
frame_lawful x y width height sx sy sw sh =
    attributes_append _ _ (number_lawful (codes "x") x refl sx)
    (attributes_append _ _ (number_lawful (codes "y") y refl sy)
    (attributes_append _ _ (number_lawful (codes "width") width refl sw) (number_lawful (codes "height") height refl sh)))

place_lawful : (x y : ℕ) → x < 2 ^ 64 → y < 2 ^ 64 → AreAttributes (place_attributes x y)
unfolding place_attributes
place_lawful x y sx sy = attributes_append _ _ (number_lawful (codes "x") x refl sx) (number_lawful (codes "y") y refl sy)

rect_lawful : (x y width height : ℕ) (class anchor : List ℕ) → x < 2 ^ 64 → y < 2 ^ 64 → width < 2 ^ 64 → height < 2 ^ 64
    → AreAttributes (rect_attributes x y width height class anchor)
unfolding rect_attributes
rect_lawful x y width height class anchor sx sy sw sh =
    attributes_append _ _ (frame_lawful x y width height sx sy sw sh)
    (attributes_append _ _ (text_lawful (codes "class") class refl) (text_lawful (codes "id") anchor refl))

title_content : (title : List ℕ) → IsContent (title_element title)
unfolding title_element
title_content title = element_content (codes "title") [] (escaped title) refl no_attribute (escaped_content title)

pub box_content : (x y width height : ℕ) (class anchor title : List ℕ) → x < 2 ^ 64 → y < 2 ^ 64 → width < 2 ^ 64 → height < 2 ^ 64
    → IsContent (box_text x y width height class anchor title)
box_content x y width height class anchor title sx sy sw sh =
    content_append _ _
    (element_content (codes "rect") _ _ refl
    (rect_lawful x y width height class anchor sx sy sw sh)
    (title_content title))
    feed

pub words_content : (x y : ℕ) (class words : List ℕ) → x < 2 ^ 64 → y < 2 ^ 64 → IsContent (words_text x y class words)
words_content x y class words sx sy =
    content_append _ _
    (element_content (codes "text") _ _ refl
    (attributes_append _ _ (place_lawful x y sx sy) (text_lawful (codes "class") class refl))
    (escaped_content words))
    feed

class_lawful : (value : List ℕ) → AreCharacters is_unquoted value → AreAttributes (attribute (codes "class") value)
class_lawful value h = attribute_lawful (codes "class") value refl h

faint_word : AreCharacters is_unquoted (codes "faint")
faint_word = character 102 _ refl (character 97 _ refl (character 105 _ refl (character 110 _ refl (character 116 _ refl no_character))))

tick_word : AreCharacters is_unquoted (codes "tick")
tick_word = character 116 _ refl (character 105 _ refl (character 99 _ refl (character 107 _ refl no_character)))

gap_word : AreCharacters is_unquoted (codes "gap")
gap_word = character 103 _ refl (character 97 _ refl (character 112 _ refl no_character))

faint_content : (words : List ℕ) → IsContent (faint_text words)
unfolding faint_text
faint_content words = element_content (codes "tspan") _ _ refl (class_lawful (codes "faint") faint_word) (escaped_content words)

axis_words_content : (faint words : List ℕ) → IsContent (axis_words faint words)
unfolding axis_words
axis_words_content faint words = content_append _ _ (faint_content faint) (escaped_content words)

pub axis_content : (x y : ℕ) (faint words : List ℕ) → x < 2 ^ 64 → y < 2 ^ 64 → IsContent (axis_text x y faint words)
axis_content x y faint words sx sy =
    content_append _ _
    (element_content (codes "text") _ _ refl
    (attributes_append _ _ (place_lawful x y sx sy) (text_lawful (codes "class") (codes "axis") refl))
    (axis_words_content faint words))
    feed

path_characters : (x y : ℕ) (step : List ℕ) → AreCharacters is_unquoted step → x < 2 ^ 64 → y < 2 ^ 64
    → AreCharacters is_unquoted (path_value x y step)
path_characters x y step ok sx sy =
    character 77 _ refl
    (characters_append is_unquoted _ _ (decimal_characters x sx)
    (character 32 _ refl (characters_append is_unquoted _ _ (decimal_characters y sy) ok)))

pub empty_content : (name attributes : List ℕ) → IsXmlName name → AreAttributes attributes → IsContent (empty_element name attributes)
empty_content name attributes named lawful =
    subst IsContent (append-nil (empty_element name attributes)) (one_empty name attributes [] named lawful nothing)

pub tick_content : (x y : ℕ) → x < 2 ^ 64 → y < 2 ^ 64 → IsContent (tick_text x y)
tick_content x y sx sy =
    content_append _ _
    (empty_content (codes "path") _ refl
    (attributes_append _ _
    (attribute_lawful (codes "d") (path_value x y (codes "h4")) refl
    (path_characters x y (codes "h4") (character 104 _ refl (character 52 _ refl no_character)) sx sy))
    (class_lawful (codes "tick") tick_word)))
    feed

pub gap_content : (x y to : ℕ) → x < 2 ^ 64 → y < 2 ^ 64 → to < 2 ^ 64 → IsContent (gap_text x y to)
gap_content x y to sx sy st =
    content_append _ _
    (empty_content (codes "path") _ refl
    (attributes_append _ _
    (attribute_lawful (codes "d") (path_value x y (72 ∷ decimal to)) refl
    (path_characters x y (72 ∷ decimal to) (character 72 _ refl (decimal_characters to st)) sx sy))
    (class_lawful (codes "gap") gap_word)))
    feed
