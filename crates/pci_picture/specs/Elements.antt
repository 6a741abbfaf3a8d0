-- The elements of a picture.
use Rattle.std.specs.Prelude.{ℕ, Bool, ◌==◌, ◌&&◌, ◌||◌, List, [], ◌∷◌, ◌++◌, codes, nat_le, if◌then◌else◌}
use Rattle.std.specs.List.{flat_map}
use Rattle.std.specs.Fmt.{decimal}
use Rattle.pci_picture.specs.Xml.{attribute, element, empty_element}

-- printable ASCII, or a line feed
abbrev pub is_shown : ℕ → Bool
is_shown byte = (nat_le 32 byte && nat_le byte 126) || (byte == 10)

-- a byte as a picture shows it: markup as an entity, and `?` for what is not printable ASCII
abbrev pub escaped_byte : ℕ → List ℕ
escaped_byte byte =
    if byte == 38 then codes "&amp;"
    else (if byte == 60 then codes "&lt;"
    else (if byte == 62 then codes "&gt;"
    else (if byte == 34 then codes "&quot;"
    else (if byte == 39 then codes "&#x27;"
    else (if is_shown byte then byte ∷ [] else 63 ∷ [])))))

abbrev pub escaped : List ℕ → List ℕ
escaped bytes = flat_map escaped_byte bytes

-- an attribute whose value is a number, or bytes; none where there are no bytes
unfoldable pub number_attribute : List ℕ → ℕ → List ℕ
number_attribute name number = attribute name (decimal number)

unfoldable pub text_attribute : List ℕ → List ℕ → List ℕ
text_attribute name [] = []
text_attribute name (b ∷ bytes) = attribute name (escaped (b ∷ bytes))

-- where a rectangle stands: left, top, width and height
unfoldable pub frame_attributes : ℕ → ℕ → ℕ → ℕ → List ℕ
frame_attributes x y width height =
    number_attribute (codes "x") x ++ (number_attribute (codes "y") y
    ++ (number_attribute (codes "width") width ++ number_attribute (codes "height") height))

-- the look of a rectangle too: its class, and the name by which a link finds it
unfoldable pub rect_attributes : ℕ → ℕ → ℕ → ℕ → List ℕ → List ℕ → List ℕ
rect_attributes x y width height class anchor =
    frame_attributes x y width height ++ (text_attribute (codes "class") class ++ text_attribute (codes "id") anchor)

unfoldable pub title_element : List ℕ → List ℕ
title_element title = element (codes "title") [] (escaped title)

-- a box with its title, which a browser shows under the pointer
abbrev pub box_text : ℕ → ℕ → ℕ → ℕ → List ℕ → List ℕ → List ℕ → List ℕ
box_text x y width height class anchor title =
    element (codes "rect") (rect_attributes x y width height class anchor)
    (title_element title)
    ++ 10 ∷ []

unfoldable pub place_attributes : ℕ → ℕ → List ℕ
place_attributes x y = number_attribute (codes "x") x ++ number_attribute (codes "y") y

-- a line of words
abbrev pub words_text : ℕ → ℕ → List ℕ → List ℕ → List ℕ
words_text x y class words =
    element (codes "text") (place_attributes x y ++ text_attribute (codes "class") class) (escaped words)
    ++ 10 ∷ []

-- words in grey
unfoldable pub faint_text : List ℕ → List ℕ
faint_text words = element (codes "tspan") (attribute (codes "class") (codes "faint")) (escaped words)

unfoldable pub axis_words : List ℕ → List ℕ → List ℕ
axis_words faint words = faint_text faint ++ escaped words

-- a line of words at the axis, of which the first ones are grey
abbrev pub axis_text : ℕ → ℕ → List ℕ → List ℕ → List ℕ
axis_text x y faint words =
    element (codes "text") (place_attributes x y ++ text_attribute (codes "class") (codes "axis"))
    (axis_words faint words)
    ++ 10 ∷ []

-- a line to the right: `M` to its beginning, and `h` by how much, or `H` to where
abbrev pub path_value : ℕ → ℕ → List ℕ → List ℕ
path_value x y step = 77 ∷ (decimal x ++ (32 ∷ (decimal y ++ step)))

abbrev pub tick_text : ℕ → ℕ → List ℕ
tick_text x y =
    empty_element (codes "path")
    (attribute (codes "d") (path_value x y (codes "h4")) ++ attribute (codes "class") (codes "tick"))
    ++ 10 ∷ []

abbrev pub gap_text : ℕ → ℕ → ℕ → List ℕ
gap_text x y to =
    empty_element (codes "path")
    (attribute (codes "d") (path_value x y (72 ∷ decimal to)) ++ attribute (codes "class") (codes "gap"))
    ++ 10 ∷ []
