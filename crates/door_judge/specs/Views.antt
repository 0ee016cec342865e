-- The plain data that parts of requests stand for.
use Rattle.std.specs.Prelude.{map}
use Rattle.data_records.specs.Views.{value_data}
use Rattle.type_schema.specs.SchemaViews.{field_info_of, model_info_of}
use Rattle.door_judge.specs.declared.making.Making as code_making
use Rattle.door_judge.specs.declared.setting.Setting as code_setting
use Rattle.door_meaning.specs.Records.{Making, Setting}

-- a value for a field, as plain data
abbrev pub setting_data : code_setting.Setting → Setting
setting_data set = record { info = model_info_of set.info.now; field = field_info_of set.field.now; value = value_data set.value }

-- a record that is made, as plain data
abbrev pub making_data : code_making.Making → Making
making_data made = record { info = model_info_of made.info.now; row = map value_data made.row; id = made.id }
