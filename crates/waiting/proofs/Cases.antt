-- The rows of the form test, computed. Assumes nothing.
use mathlib.Core.Path.{refl}
use Rattle.octet.specs.Number.{value_be, value_le, digits_le}
use Rattle.octet.specs.Part.{all_zero}
use Rattle.record.specs.Record.{record_form}
use Rattle.table.specs.Rows.{rows, joined, bytes_of, any_of}
use Rattle.kept.specs.Keys.{has}
use Rattle.waiting.specs.Place.{new_place}
use Rattle.waiting.specs.Form.{place_by, places_by, used_in, used_of, waiting_form}
use Rattle.waiting.specs.Cases.{FormCases}

pub form_cases : FormCases
unfolding has new_place value_be value_le digits_le all_zero record_form rows joined bytes_of place_by any_of places_by used_in used_of waiting_form
form_cases = (refl, (refl, (refl, (refl, (refl, (refl, (refl, (refl, (refl, (refl, (refl, (refl, (refl, tt)))))))))))))
