-- `chosen` meets its contract: by the answer of the choice; an answered length is not above what is lent. Assumes nothing.
use Rattle.std.proofs.Common.{sym, ◌∙◌, ap, Ok, length-take-le}
use Rattle.choice.specs.Choice.{chosen_of}
use Rattle.choice.proofs.laws.Parts.{firmware-within, eeprom-within}
use Rattle.choice.proofs.chosen.Goals as goal

pub slice_bounds-result-end : goal.slice_bounds-result-end
slice_bounds-result-end c = sym (length-take-le _ _ (firmware-within _ _ c.args.eeprom.now _ (sym c.choice.ensures ∙ c.in-Ok-Firmware.is ∙ ap Ok c.in-Ok-Firmware.field-0-is)))

pub returns-in-Ok-Firmware : goal.returns-in-Ok-Firmware
unfolding chosen_of
returns-in-Ok-Firmware c = rw (sym c.choice.ensures ∙ c.in-Ok-Firmware.is ∙ ap Ok c.in-Ok-Firmware.field-0-is)

pub slice_bounds-result-end-in-Ok-Eeprom : goal.slice_bounds-result-end-in-Ok-Eeprom
slice_bounds-result-end-in-Ok-Eeprom c = sym (length-take-le _ _ (eeprom-within _ c.args.firmware.now _ _ (sym c.choice.ensures ∙ c.in-Ok-Eeprom.is ∙ ap Ok c.in-Ok-Eeprom.field-0-is)))

pub returns-in-Ok-Eeprom : goal.returns-in-Ok-Eeprom
unfolding chosen_of
returns-in-Ok-Eeprom c = rw (sym c.choice.ensures ∙ c.in-Ok-Eeprom.is ∙ ap Ok c.in-Ok-Eeprom.field-0-is)

pub returns-in-Err : goal.returns-in-Err
unfolding chosen_of
returns-in-Err c = rw (sym c.choice.ensures ∙ c.in-Err.is)
