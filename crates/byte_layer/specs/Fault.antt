-- What a fault tells: a number, a layer and a place.
use Rattle.std.specs.Prelude.{ℕ, ◌/◌, cond, List, ◌++◌, Ok, Err, Result, ◌==◌, codes}
use Rattle.std.specs.Fmt.{decimal}
use Rattle.byte_layer.specs.declared.fault.Layer.{Layer}
use Rattle.byte_layer.specs.declared.fault.Layer.TheVariants as layer
use Rattle.byte_layer.specs.declared.fault.Told.{Told}
use Rattle.byte_layer.specs.declared.fault.ByteFault.{ByteFault}
use Rattle.byte_layer.specs.declared.fault.ByteFault.TheVariants.{Cut, Unknown}

-- the layers by their numbers: 1 bytes, 2 book, 3 page, 4 market, 5 gate, 6 annex
abbrev pub layer_of : ℕ → Layer
layer_of n = cond (n == 1) layer.Bytes (cond (n == 2) layer.Book (cond (n == 3) layer.Page (cond (n == 4) layer.Market (cond (n == 5) layer.Gate layer.Annex))))

-- the fault of a number at a place: the tens digit of the number gives the layer
abbrev pub fault : ℕ → ℕ → Told
fault n place = record { number = n; layer = layer_of (n / 10); place = place }

abbrev pub told_byte : ByteFault → Told
told_byte (Cut offset) = fault 11 offset
told_byte (Unknown offset) = fault 12 offset

-- a result with what its fault tells in place of the fault
abbrev pub heard : {X E : Type 0} → (E → Told) → Result X E → Result X Told
heard tell (Ok x) = Ok x
heard tell (Err e) = Err (tell e)

-- how a layer and what a fault tells are printed
abbrev pub layer_text : Layer → List ℕ
layer_text layer.Bytes = codes "bytes"
layer_text layer.Book = codes "book"
layer_text layer.Page = codes "page"
layer_text layer.Market = codes "market"
layer_text layer.Gate = codes "gate"
layer_text layer.Annex = codes "annex"

abbrev pub told_text : Told → List ℕ
told_text t = decimal t.number ++ (codes ", layer " ++ (layer_text t.layer ++ (codes ", place " ++ decimal t.place)))
