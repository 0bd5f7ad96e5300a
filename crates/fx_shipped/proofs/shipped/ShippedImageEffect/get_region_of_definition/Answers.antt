use Rattle.fx_shipped.proofs.shipped.ShippedImageEffect.get_region_of_definition.Goals as goal

pub returns-in-Solid : goal.returns-in-Solid
returns-in-Solid c = rw c.in-Solid.is c.get_region_of_definition.ensures

pub returns-in-Checker : goal.returns-in-Checker
returns-in-Checker c = rw c.in-Checker.is c.get_region_of_definition-in-Checker.ensures

pub returns-in-Ramp : goal.returns-in-Ramp
returns-in-Ramp c = rw c.in-Ramp.is c.get_region_of_definition-in-Ramp.ensures

pub returns-in-Grain : goal.returns-in-Grain
returns-in-Grain c = rw c.in-Grain.is c.get_region_of_definition-in-Grain.ensures

pub returns-in-Invert : goal.returns-in-Invert
returns-in-Invert c = rw c.in-Invert.is c.get_region_of_definition-in-Invert.ensures

pub returns-in-Gain : goal.returns-in-Gain
returns-in-Gain c = rw c.in-Gain.is c.get_region_of_definition-in-Gain.ensures

pub returns-in-Premult : goal.returns-in-Premult
returns-in-Premult c = rw c.in-Premult.is c.get_region_of_definition-in-Premult.ensures

pub returns-in-Unpremult : goal.returns-in-Unpremult
returns-in-Unpremult c = rw c.in-Unpremult.is c.get_region_of_definition-in-Unpremult.ensures

pub returns-in-Shuffle : goal.returns-in-Shuffle
returns-in-Shuffle c = rw c.in-Shuffle.is c.get_region_of_definition-in-Shuffle.ensures

pub returns-in-Saturation : goal.returns-in-Saturation
returns-in-Saturation c = rw c.in-Saturation.is c.get_region_of_definition-in-Saturation.ensures

pub returns-in-Posterise : goal.returns-in-Posterise
returns-in-Posterise c = rw c.in-Posterise.is c.get_region_of_definition-in-Posterise.ensures

pub returns-in-Boxblur : goal.returns-in-Boxblur
returns-in-Boxblur c = rw c.in-Boxblur.is c.get_region_of_definition-in-Boxblur.ensures

pub returns-in-Erode : goal.returns-in-Erode
returns-in-Erode c = rw c.in-Erode.is c.get_region_of_definition-in-Erode.ensures

pub returns-in-Dilate : goal.returns-in-Dilate
returns-in-Dilate c = rw c.in-Dilate.is c.get_region_of_definition-in-Dilate.ensures

pub returns-in-Convolve3 : goal.returns-in-Convolve3
returns-in-Convolve3 c = rw c.in-Convolve3.is c.get_region_of_definition-in-Convolve3.ensures

pub returns-in-Crop : goal.returns-in-Crop
returns-in-Crop c = rw c.in-Crop.is c.get_region_of_definition-in-Crop.ensures

pub returns-in-Translate : goal.returns-in-Translate
returns-in-Translate c = rw c.in-Translate.is c.get_region_of_definition-in-Translate.ensures

pub returns-in-Mirror : goal.returns-in-Mirror
returns-in-Mirror c = rw c.in-Mirror.is c.get_region_of_definition-in-Mirror.ensures

pub returns-in-Timeoffset : goal.returns-in-Timeoffset
returns-in-Timeoffset c = rw c.in-Timeoffset.is c.get_region_of_definition-in-Timeoffset.ensures

pub returns-in-Frameblend : goal.returns-in-Frameblend
returns-in-Frameblend c = rw c.in-Frameblend.is c.get_region_of_definition-in-Frameblend.ensures

pub returns-in-Framediff : goal.returns-in-Framediff
returns-in-Framediff c = rw c.in-Framediff.is c.get_region_of_definition-in-Framediff.ensures

pub returns-in-Echo : goal.returns-in-Echo
returns-in-Echo c = rw c.in-Echo.is c.get_region_of_definition-in-Echo.ensures

pub returns-in-Dissolve : goal.returns-in-Dissolve
returns-in-Dissolve c = rw c.in-Dissolve.is c.get_region_of_definition-in-Dissolve.ensures

pub returns-in-Wipe : goal.returns-in-Wipe
returns-in-Wipe c = rw c.in-Wipe.is c.get_region_of_definition-in-Wipe.ensures

pub returns-in-Merge : goal.returns-in-Merge
returns-in-Merge c = rw c.in-Merge.is c.get_region_of_definition-in-Merge.ensures

pub returns-in-Keymix : goal.returns-in-Keymix
returns-in-Keymix c = rw c.in-Keymix.is c.get_region_of_definition-in-Keymix.ensures

pub returns-in-Autogain : goal.returns-in-Autogain
returns-in-Autogain c = rw c.in-Autogain.is c.get_region_of_definition-in-Autogain.ensures
