-- What a document is.
use Rattle.std.specs.Prelude.{List, [], Option, Some, None}
use Rattle.yds_model.specs.Document.{Document as DocumentText}
use Rattle.yds_model.specs.Table.{Point}
use Rattle.document_value.specs.declared.document.Document.{Document}

-- the points of a table, where there is one
abbrev pub points_of : Option (List Point) → List Point
points_of None = []
points_of (Some points) = points

-- the document that this one is: its lines without their spelling
abbrev pub document_view : Document → DocumentText
document_view document = record {
  names = document.instance.names;
  jobs = document.instance.jobs;
  points = points_of document.table;
  slots = document.schedule.slots;
  levels = document.certificate;
  grid = document.grid;
  energy = document.energy;
}
