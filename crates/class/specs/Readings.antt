-- The code's own notion: what the code keeps of what is read. Assumes nothing.
use Rattle.std.specs.Prelude.{length}
use Rattle.reads.specs.Records.{Many}
use Rattle.pool.specs.Readings.{head_of}
use Rattle.class.specs.declared.Sorted.{Sorted}
use Rattle.class.specs.declared.Front.{Front as FrontValue}
use Rattle.class.specs.declared.Class.{Class as ClassValue}
use Rattle.class.specs.Members.{Whole, Reached}
use Rattle.class.specs.Class.{Front, Tables, Class, class_flags}

-- after the members of one sort: how many these are, the byte and the number of attribute records that are reached
abbrev pub sorted_of : Many Whole Reached → Sorted
sorted_of m = record { count = length m.list; at = m.end.at; used = m.end.used }

abbrev pub front_of : Front → FrontValue
front_of f = record {
  pool = head_of f.pool;
  class = f.head;
  interfaces = record { count = length f.interfaces; next = f.next };
}

-- the answer, once what stands before the members is read, and these
abbrev pub filled_of : FrontValue → Tables → ClassValue
filled_of f t = record {
  slots = f.pool.slots;
  minor = f.pool.minor;
  major = f.pool.major;
  flags = class_flags f.class.flags;
  this = f.class.this;
  parent = f.class.parent;
  interfaces = f.interfaces.count;
  fields = length t.fields;
  methods = length t.methods;
  used = t.used;
  own = length t.own;
}

abbrev pub class_of : Class → ClassValue
class_of c = filled_of (front_of c.front) c.tables
